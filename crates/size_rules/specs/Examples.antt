-- Sessions and their smallest size, as cases of the bench are written: over a memory of 32 values (`Sizes-shown`; its proof is by
-- computation).
use Rattle.std.specs.Prelude.{ℕ, zero, suc, ◌+◌, List, [], ◌∷◌, ◌++◌, replicate}
use Rattle.rules.specs.declared.Signal.TheVariants.{Trigger as trigger}
use Rattle.rules.specs.declared.Event.{Event}
use Rattle.rules.specs.declared.Event.TheVariants.{Signal as signal}
use Rattle.rules.specs.Bench.{bcr, mask, bor, load, clk, Look, ◌shows◌, Case, AllCases}
use Rattle.rules.specs.Examples.{up}
use Rattle.size_rules.specs.Smallest.{replays, lowest, replayed}

-- ---- Events

-- power-up with a fitted code: a depth of 8, 16 or 32 values for 0, 1 and 2
abbrev pub fit : ℕ → Event
fit d = up d 0 0 2 0

-- so many events, each made of a number, from v on
unfoldable pub numbered : ℕ → ℕ → (ℕ → Event) → List Event
numbered v zero e = []
numbered v (suc n) e = e v ∷ numbered (v + 1) n e

-- so many values: 1, 2, 3 ..
abbrev pub loads : ℕ → List Event
loads n = numbered 1 n load

abbrev pub clocks : ℕ → List Event
clocks n = numbered 1 n (λ _. clk)

-- ---- Looks

abbrev pub lent : List ℕ
lent = replicate 32 7

-- the code that is named, 16 where there is none
unfoldable pub code_named : Look
code_named es = lowest es lent ∷ []

-- the memory as it is left
unfoldable pub memory_left : Look
memory_left es = replays es lent (replayed (lowest es lent))

-- ---- The table

unfoldable pub examples : List Case
examples =
    -- nine values are one too many for code 0, and seventeen for code 1, whatever code the session had
    record {
      session = fit 2 ∷ bor 0 ∷ loads 9;
      sights = code_named shows (1 ∷ []) ∷ [];
    }
    ∷ record {
      session = fit 2 ∷ bor 0xF ∷ loads 17;
      sights = code_named shows (2 ∷ []) ∷ [];
    }
    -- eight play at code 0, and so do nine where a clock has taken one away
    ∷ record {
      session = fit 2 ∷ mask 1 ∷ bor 0x2F ∷ loads 8 ++ clk ∷ load 9 ∷ [];
      sights = code_named shows (0 ∷ []) ∷ [];
    }
    -- the code 15 that power-up sets is no write, and stays: nine values before the first write to 0Ch
    ∷ record {
      session = fit 2 ∷ loads 9;
      sights = code_named shows (0 ∷ []) ∷ [];
    }
    -- the same after initialise
    ∷ record {
      session = fit 2 ∷ bor 0 ∷ bcr 0x8000 ∷ loads 9;
      sights = code_named shows (0 ∷ []) ∷ [];
    }
    -- and it goes with the next write: a tenth value finds nine where eight have room
    ∷ record {
      session = fit 2 ∷ loads 9 ++ bor 0xF ∷ load 10 ∷ [];
      sights = code_named shows (1 ∷ []) ∷ [];
    }
    -- a value lost to a closed buffer, fate 3, fails no code
    ∷ record {
      session = fit 2 ∷ load 1 ∷ bor 0x100 ∷ load 2 ∷ [];
      sights = code_named shows (0 ∷ []) ∷ [];
    }
    -- no power-up is accepted, since 64 values are more than the memory has: nothing is lost
    ∷ record {
      session = fit 3 ∷ bor 0 ∷ loads 9;
      sights = code_named shows (0 ∷ []) ∷ memory_left shows lent ∷ [];
    }
    -- one that is refused fails no code and changes nothing: the ninth value still finds eight
    ∷ record {
      session = fit 2 ∷ bor 0 ∷ loads 8 ++ fit 3 ∷ load 9 ∷ [];
      sights = code_named shows (1 ∷ []) ∷ [];
    }
    -- "the fitted codes kept": a depth of 8 has no room for nine, at any code. The memory is as the last replay left it, to its end: a
    -- clock took the first value away, and 10 was stored in its place
    ∷ record {
      session = fit 0 ∷ mask 1 ∷ bor 0x20 ∷ loads 9 ++ clk ∷ load 10 ∷ [];
      sights = code_named shows (16 ∷ []) ∷ memory_left shows (10 ∷ 2 ∷ 3 ∷ 4 ∷ 5 ∷ 6 ∷ 7 ∷ 8 ∷ replicate 24 7) ∷ [];
    }
    -- "each over what the one before left", "past losses": a burst on a circular buffer ends with the ninth value's EOF. At code 0 that
    -- value is lost, so that eight values go on round for all fourteen clocks, up to the entry 21; code 1 writes up to the entry 17
    ∷ record {
      session = fit 2 ∷ bcr 0x11 ∷ mask 1 ∷ bor 0x20 ∷ loads 8 ++ load 0x10009 ∷ bor 0x120 ∷ signal trigger ∷ clocks 14;
      sights = code_named shows (1 ∷ [])
          ∷ memory_left shows (1 ∷ 2 ∷ 3 ∷ 4 ∷ 5 ∷ 6 ∷ 7 ∷ 8 ∷ 0x10009 ∷ 1 ∷ 2 ∷ 3 ∷ 4 ∷ 5 ∷ 6 ∷ 7 ∷ 8 ∷ 0x10009 ∷ 3 ∷ 4 ∷ 5 ∷ 6 ∷ replicate 10 7)
          ∷ [];
    }
    -- the same of three codes. The first part is as above, and at code 0 alone goes up to the entry 21. In the second, with the buffer
    -- emptied, fifteen of seventeen values leave at once; the seventeenth has EOF, and ends the burst after two clocks. At code 1 that
    -- value is lost, and the sixteenth goes on round for all four, up to the entry 19; code 2 writes up to the entry 18
    ∷ record {
      session = fit 2 ∷ bcr 0x11 ∷ mask 1 ∷ bor 0x20 ∷ loads 8 ++ load 0x10009 ∷ bor 0x120 ∷ signal trigger ∷ clocks 14
          ++ bor 0x820 ∷ bcr 0x90 ∷ mask 0x7FFF ∷ loads 16 ++ load 0x10011 ∷ clk
          ∷ bcr 0x11 ∷ mask 1 ∷ bor 0x120 ∷ signal trigger ∷ clocks 4;
      sights = code_named shows (2 ∷ [])
          ∷ memory_left shows (1 ∷ 2 ∷ 3 ∷ 4 ∷ 5 ∷ 6 ∷ 7 ∷ 8 ∷ 9 ∷ 10 ∷ 11 ∷ 12 ∷ 13 ∷ 14 ∷ 15 ∷ 16 ∷ 0x10011 ∷ 16 ∷ 0x10011 ∷ 16 ∷ 5 ∷ 6 ∷ replicate 10 7)
          ∷ [];
    }
    ∷ []

abbrev pub Sizes-shown : Type 0
Sizes-shown = AllCases examples
