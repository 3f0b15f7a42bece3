-- 01's bench cases marked P, as a single table under a single theorem (`Bench`; its proof is in proofs/Bench.antt).
--   Case      a session from power-up, and what is to be seen of it
--   Sight     a look at the session and the numbers that it shows
use Rattle.std.specs.Prelude.{ℕ, ◌≡◌, Bool, true, false, cond, List, [], ◌∷◌, eqb, replicate, take}
use Rattle.rules.specs.Types.{Event, power_up, write, read, signal, tick, trigger}
use Rattle.rules.specs.Bits.{bit, flag}
use Rattle.rules.specs.Record.{State, stored, start}
use Rattle.rules.specs.Step.{Outcome, step}
use Rattle.rules.specs.Session.{after}
use Rattle.rules.specs.Rates.{Figures, rates}

-- ---- Events of the bench

-- power-up with a depth of 16 values and 20 channels
abbrev pub on : Event
on = power_up (record { fitted = 1; range = 0; filter = 0; kit = 2; firmware = 0 })

abbrev pub bcr : ℕ → Event
bcr v = write 0x00 v

abbrev pub mask : ℕ → Event
mask v = write 0x04 v

abbrev pub bor : ℕ → Event
bor v = write 0x0C v

abbrev pub load : ℕ → Event
load v = write 0x18 v

abbrev pub bcr? : Event
bcr? = read 0x00

abbrev pub bor? : Event
bor? = read 0x0C

abbrev pub clk : Event
clk = signal tick

-- ---- Looks

-- a look sees a session from the unpowered record over a memory of 16 values
abbrev pub Look : Type 0
Look = List Event → List ℕ

abbrev pub bench : State
bench = start (replicate 16 0)

-- of the events that are chosen, in order, what their outcomes show
unfoldable pub seen : (Event → Bool) → (Outcome → ℕ) → State → Look
seen chosen shows s [] = []
seen chosen shows s (e ∷ es) =
    let rest : List ℕ = seen chosen shows (step s e).state es in
    cond (chosen e) (shows (step s e) ∷ rest) rest

unfoldable pub is_read : Event → Bool
is_read (power_up x) = false
is_read (write o v) = false
is_read (read o) = true
is_read (signal x) = false

unfoldable pub is_load : Event → Bool
is_load (power_up x) = false
is_load (write o v) = eqb o 0x18
is_load (read o) = false
is_load (signal x) = false

unfoldable pub is_signal : Event → Bool
is_signal (power_up x) = false
is_signal (write o v) = false
is_signal (read o) = false
is_signal (signal x) = true

-- Dk of each reading
unfoldable pub bit_read : ℕ → Look
bit_read k es = seen is_read (λ o. flag (bit k o.answer.register)) bench es

-- the fate of each load
unfoldable pub fates : Look
fates es = seen is_load (λ o. o.answer.fate) bench es

-- the values moved by each tick and trigger
unfoldable pub moved : Look
moved es = seen is_signal (λ o. o.answer.moved) bench es

-- at the end: the levels of channels 00, 01 and 02
unfoldable pub levels : Look
levels es = take 3 (after bench es).board.core.outputs.levels

-- at the end: the stored values, the oldest first
unfoldable pub held : Look
held es = stored (after bench es)

-- at the end: refusal number, whole reference and rate
unfoldable pub rate : Look
rate es = let f : Figures = rates (after bench es).board in f.refusal ∷ f.reference ∷ f.rate ∷ []

-- ---- The table

infix 70 ◌shows◌
pub record Sight : Type 0 where
  pub look : Look
  pub numbers : List ℕ

abbrev pub ◌shows◌ : Look → List ℕ → Sight
◌shows◌ l ns = record { look = l; numbers = ns }

pub record Case : Type 0 where
  pub session : List Event
  pub sights : List Sight

unfoldable pub table : List Case
table =
    -- "size 8: low at 1, not 2; .. full at 8, not 7", and 02, 2026-06: "At size 8 it rises at 6, not at 5"; read after each of eight
    -- loads
    record {
      session = on ∷ bor 0x0
          ∷ load 1 ∷ bor? ∷ load 2 ∷ bor? ∷ load 3 ∷ bor? ∷ load 4 ∷ bor?
          ∷ load 5 ∷ bor? ∷ load 6 ∷ bor? ∷ load 7 ∷ bor? ∷ load 8 ∷ bor? ∷ [];
      sights = bit_read 13 shows (1 ∷ 0 ∷ 0 ∷ 0 ∷ 0 ∷ 0 ∷ 0 ∷ 0 ∷ [])
          ∷ bit_read 14 shows (0 ∷ 0 ∷ 0 ∷ 0 ∷ 0 ∷ 1 ∷ 1 ∷ 1 ∷ [])
          ∷ bit_read 15 shows (0 ∷ 0 ∷ 0 ∷ 0 ∷ 0 ∷ 0 ∷ 0 ∷ 1 ∷ [])
          ∷ fates shows (1 ∷ 1 ∷ 1 ∷ 1 ∷ 1 ∷ 1 ∷ 1 ∷ 1 ∷ []) ∷ [];
    }
    -- "full and closed: a load gives fate 3 only": D15 and D17 are set, D16 is not, D10 says closed, and the list is as it was
    ∷ record {
      session = on ∷ bor 0x0 ∷ load 1 ∷ load 2 ∷ load 3 ∷ load 4 ∷ load 5 ∷ load 6 ∷ load 7 ∷ load 8 ∷ bor 0x100 ∷ load 9 ∷ bor? ∷ [];
      sights = fates shows (1 ∷ 1 ∷ 1 ∷ 1 ∷ 1 ∷ 1 ∷ 1 ∷ 1 ∷ 3 ∷ [])
          ∷ bit_read 10 shows (0 ∷ []) ∷ bit_read 15 shows (1 ∷ []) ∷ bit_read 16 shows (0 ∷ []) ∷ bit_read 17 shows (1 ∷ [])
          ∷ held shows (1 ∷ 2 ∷ 3 ∷ 4 ∷ 5 ∷ 6 ∷ 7 ∷ 8 ∷ []) ∷ [];
    }
    -- "two's complement 0001h, FFFFh, 8000h: levels 8001h, 7FFFh, 0000h"
    ∷ record {
      session = on ∷ bcr 0x0 ∷ bor 0x20 ∷ load 0x0001 ∷ load 0xFFFF ∷ load 0x8000 ∷ clk ∷ clk ∷ clk ∷ [];
      sights = levels shows (0x8001 ∷ 0x7FFF ∷ 0x0000 ∷ []) ∷ moved shows (1 ∷ 1 ∷ 1 ∷ []) ∷ [];
    }
    -- "mask 5, simultaneous, one value stored: moves 0; two stored: moves 2", to channels 00 and 02
    ∷ record {
      session = on ∷ bcr 0x90 ∷ mask 5 ∷ bor 0x20 ∷ load 0x1111 ∷ clk ∷ load 0x2222 ∷ clk ∷ [];
      sights = moved shows (0 ∷ 2 ∷ []) ∷ levels shows (0x1111 ∷ 0x8000 ∷ 0x2222 ∷ []) ∷ held shows [] ∷ [];
    }
    -- "burst, one channel, A000h then B000h with EOF: tick moves 0; trigger; two ticks move 1 each; D1 is 1 again"
    ∷ record {
      session = on ∷ bcr 0x11 ∷ mask 1 ∷ bor 0x20 ∷ load 0xA000 ∷ load 0x1B000
          ∷ bcr? ∷ clk ∷ signal trigger ∷ bcr? ∷ clk ∷ bcr? ∷ clk ∷ bcr? ∷ [];
      sights = moved shows (0 ∷ 0 ∷ 1 ∷ 1 ∷ []) ∷ bit_read 1 shows (1 ∷ 0 ∷ 0 ∷ 1 ∷ [])
          ∷ levels shows (0xB000 ∷ 0x8000 ∷ 0x8000 ∷ []) ∷ held shows [] ∷ [];
    }
    -- "closed 1, 2, 3+EOF: three ticks leave 1, 2, 3."
    ∷ record {
      session = on ∷ mask 1 ∷ load 1 ∷ load 2 ∷ load 0x10003 ∷ bor 0x120 ∷ clk ∷ clk ∷ clk ∷ [];
      sights = moved shows (1 ∷ 1 ∷ 1 ∷ []) ∷ held shows (1 ∷ 2 ∷ 0x10003 ∷ []) ∷ [];
    }
    -- "With a request pending the third opens; load 7, 8+EOF; three more ticks leave 7, 8, closed." D9 and D10 before the third tick,
    -- after it and at the end
    ∷ record {
      session = on ∷ mask 1 ∷ load 1 ∷ load 2 ∷ load 0x10003 ∷ bor 0x320 ∷ clk ∷ clk ∷ bor? ∷ clk ∷ bor?
          ∷ load 7 ∷ load 0x10008 ∷ clk ∷ clk ∷ clk ∷ bor? ∷ [];
      sights = moved shows (1 ∷ 1 ∷ 1 ∷ 1 ∷ 1 ∷ 1 ∷ []) ∷ bit_read 9 shows (1 ∷ 1 ∷ 0 ∷ []) ∷ bit_read 10 shows (0 ∷ 1 ∷ 0 ∷ [])
          ∷ fates shows (1 ∷ 1 ∷ 1 ∷ 1 ∷ 1 ∷ []) ∷ held shows (7 ∷ 0x10008 ∷ []) ∷ [];
    }
    -- "mask 0: a tick moves 0"
    ∷ record {
      session = on ∷ mask 0 ∷ bor 0x20 ∷ load 1 ∷ clk ∷ [];
      sights = moved shows (0 ∷ []) ∷ held shows (1 ∷ []) ∷ [];
    }
    -- "size cut from 16 to 8 with 10 stored: full, 10 kept, next load fate 2"; D15 before and after the cut, D16 after the load
    ∷ record {
      session = on ∷ bor 0x1 ∷ load 1 ∷ load 2 ∷ load 3 ∷ load 4 ∷ load 5 ∷ load 6 ∷ load 7 ∷ load 8 ∷ load 9 ∷ load 10
          ∷ bor? ∷ bor 0x0 ∷ bor? ∷ load 11 ∷ bor? ∷ [];
      sights = bit_read 15 shows (0 ∷ 1 ∷ 1 ∷ []) ∷ bit_read 16 shows (0 ∷ 0 ∷ 1 ∷ [])
          ∷ fates shows (1 ∷ 1 ∷ 1 ∷ 1 ∷ 1 ∷ 1 ∷ 1 ∷ 1 ∷ 1 ∷ 1 ∷ 2 ∷ [])
          ∷ held shows (1 ∷ 2 ∷ 3 ∷ 4 ∷ 5 ∷ 6 ∷ 7 ∷ 8 ∷ 9 ∷ 10 ∷ []) ∷ [];
    }
    -- "ALT = 1, Nclk 100: 19131115 Hz; divisor 100: 191311"
    ∷ record {
      session = on ∷ write 0x1C 0x264 ∷ write 0x08 100 ∷ [];
      sights = rate shows (0 ∷ 19131115 ∷ 191311 ∷ []) ∷ [];
    }
    ∷ []

-- ---- The theorem

pub data AllShow (session : List Event) : List Sight → Type 0 where
  none : AllShow session []
  next : {x : Sight} {xs : List Sight} → x.look session ≡ x.numbers → AllShow session xs → AllShow session (x ∷ xs)

pub data AllCases : List Case → Type 0 where
  none : AllCases []
  next : {c : Case} {cs : List Case} → AllShow c.session c.sights → AllCases cs → AllCases (c ∷ cs)

-- Every sight of every case shows its numbers.
abbrev pub Bench : Type 0
Bench = AllCases table
