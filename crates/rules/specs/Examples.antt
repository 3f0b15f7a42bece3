-- Sessions beside 01's bench: a row for each rule that neither its cases nor a law of this crate reach, and rows for what a request of
-- 02 changed (`Examples`; its proof is in proofs/Bench.antt).
use Rattle.std.specs.Prelude.{ℕ, true, List, [], ◌∷◌, replicate}
use Rattle.rules.specs.Types.{Event, power_up, read, signal, trigger}
use Rattle.rules.specs.Record.{State, state_of}
use Rattle.rules.specs.Session.{after}
use Rattle.rules.specs.Bench.{on, bcr, mask, bor, load, bcr?, bor?, clk, Look, bench, seen, is_read, bit_read, moved, levels, held, ◌shows◌, Case, AllCases}

-- ---- Events and looks

-- power-up with a fitted code, range, filter, kit and firmware
abbrev pub up : ℕ → ℕ → ℕ → ℕ → ℕ → Event
up d range filter kit firmware = power_up (record { fitted = d; range = range; filter = filter; kit = kit; firmware = firmware })

-- power-up with a depth of 8 values
abbrev pub shallow : Event
shallow = up 0 0 0 2 0

-- at the end: the sixteen entries of the memory
unfoldable pub entries : Look
entries es = (after bench es).memory

-- the same after one more tick, for which every entry of the memory is made 20005h: bit 17, and the value 5
unfoldable pub entries_over_junk : Look
entries_over_junk es =
    let s : State = after bench es in
    (after (state_of s.board (replicate 16 0x20005)) (clk ∷ [])).memory

-- what each read finds
unfoldable pub readings : Look
readings es = seen is_read (λ o. o.answer.register) bench es

-- the values moved by each event
unfoldable pub all_moved : Look
all_moved es = seen (λ e. true) (λ o. o.answer.moved) bench es

-- the refusal of each event
unfoldable pub refusals : Look
refusals es = seen (λ e. true) (λ o. o.answer.refusal) bench es

-- ---- The table

unfoldable pub examples : List Case
examples =
    -- "if any carried EOF": the second of a group of two does; "a burst ends", and D1 is 1 again
    record {
      session = on ∷ bcr 0x91 ∷ mask 3 ∷ bor 0x20 ∷ load 1 ∷ load 0x10002 ∷ signal trigger ∷ clk ∷ bcr? ∷ [];
      sights = bit_read 1 shows (1 ∷ []) ∷ [];
    }
    -- "once: .. pending becomes opened", and not closed again by the second EOF of the group: D10 is 1
    ∷ record {
      session = on ∷ bcr 0x90 ∷ mask 3 ∷ load 0x10001 ∷ load 0x10002 ∷ bor 0x320 ∷ clk ∷ bor? ∷ [];
      sights = bit_read 10 shows (1 ∷ []) ∷ [];
    }
    -- an empty buffer ends no burst (DECISIONS 1): its last value moved without EOF, and D1 stays 0
    ∷ record {
      session = on ∷ bcr 0x11 ∷ mask 1 ∷ bor 0x20 ∷ load 0xA000 ∷ signal trigger ∷ clk ∷ bcr? ∷ [];
      sights = bit_read 1 shows (0 ∷ []) ∷ [];
    }
    -- a clock moves what is stored, though it is more than the active size: nine values, the size cut from 16 to 8
    ∷ record {
      session = on ∷ bcr 0x90 ∷ mask 0x1FF ∷ bor 0x1
          ∷ load 1 ∷ load 2 ∷ load 3 ∷ load 4 ∷ load 5 ∷ load 6 ∷ load 7 ∷ load 8 ∷ load 9 ∷ bor 0x20 ∷ clk ∷ [];
      sights = moved shows (9 ∷ []) ∷ [];
    }
    -- "A leaving value moves first on by one, mod depth": eight ticks are once around a depth of 8
    ∷ record {
      session = shallow ∷ mask 1 ∷ load 7 ∷ bor 0x120 ∷ clk ∷ clk ∷ clk ∷ clk ∷ clk ∷ clk ∷ clk ∷ clk ∷ [];
      sights = held shows (7 ∷ []) ∷ [];
    }
    -- "Only those 17 bits are used or written"
    ∷ record {
      session = on ∷ load 0xFFFFFFFF ∷ [];
      sights = entries shows (0x1FFFF ∷ replicate 15 0) ∷ [];
    }
    -- "the rest of a written entry is 0", a recirculated value's too; and no other entry is written
    ∷ record {
      session = on ∷ mask 1 ∷ load 5 ∷ bor 0x120 ∷ [];
      sights = entries_over_junk shows (0x20005 ∷ 0x5 ∷ replicate 14 0x20005) ∷ [];
    }
    -- "A value is stored at (first + count) mod depth", "Entries from depth upward are never touched": a depth of 8, the ninth value
    -- after one has left
    ∷ record {
      session = shallow ∷ bor 0x20 ∷ load 1 ∷ load 2 ∷ load 3 ∷ load 4 ∷ load 5 ∷ load 6 ∷ load 7 ∷ load 8 ∷ clk ∷ load 9 ∷ [];
      sights = entries shows (9 ∷ 2 ∷ 3 ∷ 4 ∷ 5 ∷ 6 ∷ 7 ∷ 8 ∷ replicate 8 0) ∷ [];
    }
    -- "10h is firmware in D11..0, range D17..16, filter D19..18, kit D21..20", with all of them different
    ∷ record {
      session = up 1 1 2 0 0x123 ∷ read 0x10 ∷ [];
      sights = readings shows (0x90123 ∷ []) ∷ [];
    }
    -- the software clock sees the bits just written (DECISIONS 15): they enable it, and they disable it
    ∷ record {
      session = on ∷ mask 1 ∷ load 5 ∷ bor 0xB0 ∷ [];
      sights = all_moved shows (0 ∷ 0 ∷ 0 ∷ 1 ∷ []) ∷ [];
    }
    ∷ record {
      session = on ∷ mask 1 ∷ bor 0x30 ∷ load 5 ∷ bor 0x90 ∷ [];
      sights = all_moved shows (0 ∷ 0 ∷ 0 ∷ 0 ∷ 0 ∷ []) ∷ [];
    }
    -- "else to the lowest active one": past channel 19 the turn begins again at channel 01
    ∷ record {
      session = on ∷ mask 0x80002 ∷ bor 0x20 ∷ load 1 ∷ load 2 ∷ load 3 ∷ clk ∷ clk ∷ clk ∷ [];
      sights = levels shows (0x8000 ∷ 3 ∷ 0x8000 ∷ []) ∷ [];
    }
    -- initialise and loads answer moved 0, with values stored and channels active
    ∷ record {
      session = on ∷ load 5 ∷ load 6 ∷ bcr 0x8000 ∷ [];
      sights = all_moved shows (0 ∷ 0 ∷ 0 ∷ 0 ∷ []) ∷ [];
    }
    -- the overflow flags stay under clocks and loads, whatever becomes of these: D16 set by the ninth load, D17 by the next into the
    -- closed buffer; read after a clock that recirculates, after one that discards and a load that is stored, and after another loss
    ∷ record {
      session = on ∷ bor 0x0 ∷ load 1 ∷ load 2 ∷ load 3 ∷ load 4 ∷ load 5 ∷ load 6 ∷ load 7 ∷ load 8 ∷ load 9
          ∷ bor 0x10120 ∷ load 10 ∷ clk ∷ bor? ∷ bor 0x30020 ∷ clk ∷ load 11 ∷ bor? ∷ load 12 ∷ bor? ∷ [];
      sights = bit_read 16 shows (1 ∷ 1 ∷ 1 ∷ []) ∷ bit_read 17 shows (1 ∷ 1 ∷ 1 ∷ []) ∷ [];
    }
    -- 02, 2026-02: "1 now means the fitted code only; 14 range, 15 filter, 16 kit, 17 firmware": each setting bad alone, at the first
    -- number out of its range, and the record stays as it was, unpowered
    ∷ record { session = up 16 0 0 0 0 ∷ bcr? ∷ []; sights = refusals shows (1 ∷ 3 ∷ []) ∷ [] }
    ∷ record { session = up 0 3 0 0 0 ∷ bcr? ∷ []; sights = refusals shows (14 ∷ 3 ∷ []) ∷ [] }
    ∷ record { session = up 0 0 3 0 0 ∷ bcr? ∷ []; sights = refusals shows (15 ∷ 3 ∷ []) ∷ [] }
    ∷ record { session = up 0 0 0 3 0 ∷ bcr? ∷ []; sights = refusals shows (16 ∷ 3 ∷ []) ∷ [] }
    ∷ record { session = up 0 0 0 0 4096 ∷ bcr? ∷ []; sights = refusals shows (17 ∷ 3 ∷ []) ∷ [] }
    -- "checked in that order, then 2": all five bad, and put right one after the other, the depth last
    ∷ record {
      session = up 16 3 3 3 4096 ∷ up 15 3 3 3 4096 ∷ up 15 2 3 3 4096 ∷ up 15 2 2 3 4096 ∷ up 15 2 2 2 4096 ∷ up 15 2 2 2 4095
          ∷ up 1 2 2 2 4095 ∷ bcr? ∷ [];
      sights = refusals shows (1 ∷ 14 ∷ 15 ∷ 16 ∷ 17 ∷ 2 ∷ 0 ∷ 0 ∷ []) ∷ [];
    }
    -- 02, 2026-06: "At size 8 it rises at 6, not at 5; 01's case and interrupt 4 follow": the request is set by the sixth value, stays
    -- with the seventh and with the sixth again, and is cleared by the clock that leaves five
    ∷ record {
      session = on ∷ bor 0x20 ∷ bcr 0x410 ∷ load 1 ∷ load 2 ∷ load 3 ∷ load 4 ∷ load 5 ∷ bcr? ∷ load 6 ∷ bcr? ∷ load 7 ∷ bcr?
          ∷ clk ∷ bcr? ∷ clk ∷ bcr? ∷ [];
      sights = bit_read 11 shows (0 ∷ 1 ∷ 1 ∷ 1 ∷ 0 ∷ []) ∷ held shows (3 ∷ 4 ∷ 5 ∷ 6 ∷ 7 ∷ []) ∷ [];
    }
    ∷ []

-- ---- The theorem

abbrev pub Examples : Type 0
Examples = AllCases examples
