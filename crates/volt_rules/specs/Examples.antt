-- Sessions and their volts, as cases of the bench are written: from the unpowered record over a memory of 16 values (`Volts-shown`; its
-- proof is by computation).
use Rattle.std.specs.Prelude.{ℕ, ◌*◌, ◌/◌, List, [], ◌∷◌, ◌++◌, Float}
use Rattle.std.specs.Float.{nan, inf, fin}
use Rattle.std.specs.Float.Ieee.{up, down}
use Rattle.rules.specs.declared.Event.{Event}
use Rattle.rules.specs.Bits.{flag}
use Rattle.rules.specs.Bench.{bcr, mask, bor, load, clk, Look, bench, ◌shows◌, Case, AllCases}
use Rattle.rules.specs.Examples.{up as power_up}
use Rattle.volt_rules.specs.declared.Extremes.{Extremes}
use Rattle.volt_rules.specs.Counting.{nothing_counted, counted}
use Rattle.volt_rules.specs.Table.{channel}

-- a number of volts: 1 where it is negative and 0 where it is not, and its size times 65,536, so that 163,840 is 2.5 volts, 327,680 is 5
-- and 655,360 is 10
unfoldable pub scaled : Float → List ℕ
scaled nan = []
scaled (inf s) = []
scaled (fin s m e) = flag s ∷ m * up e * 65536 / down e ∷ []

-- at the end: lowest, highest and last of a channel
unfoldable pub volts : ℕ → Look
volts k es = let x : Extremes = channel (counted nothing_counted bench es) k in scaled x.lowest ++ scaled x.highest ++ scaled x.last

-- ---- Events

-- power-up with a range, and the clock enabled
abbrev pub ranged : ℕ → List Event → List Event
ranged range es = power_up 1 range 0 2 0 ∷ bor 0x20 ∷ es

-- levels 0000h and FFFFh on channel 0, and back to 8000h
abbrev pub swing : List Event
swing = mask 1 ∷ load 0 ∷ load 0xFFFF ∷ load 0x8000 ∷ clk ∷ clk ∷ clk ∷ []

-- ---- The table

unfoldable pub examples : List Case
examples =
    -- "5, 10 or 20 for range 0, 1, 2"; "Zero is positive zero", though it comes back from below
    record {
      session = ranged 0 swing;
      sights = volts 0 shows (1 ∷ 163840 ∷ 0 ∷ 163835 ∷ 0 ∷ 0 ∷ []) ∷ [];
    }
    ∷ record {
      session = ranged 1 swing;
      sights = volts 0 shows (1 ∷ 327680 ∷ 0 ∷ 327670 ∷ 0 ∷ 0 ∷ []) ∷ [];
    }
    ∷ record {
      session = ranged 2 swing;
      sights = volts 0 shows (1 ∷ 655360 ∷ 0 ∷ 655340 ∷ 0 ∷ 0 ∷ []) ∷ [];
    }
    -- "one record per channel": 9000h on channel 0, 7000h on channel 1, nothing on channel 2
    ∷ record {
      session = ranged 1 (mask 3 ∷ load 0x9000 ∷ load 0x7000 ∷ clk ∷ clk ∷ []);
      sights = volts 0 shows (0 ∷ 0 ∷ 0 ∷ 40960 ∷ 0 ∷ 40960 ∷ [])
          ∷ volts 1 shows (1 ∷ 40960 ∷ 0 ∷ 0 ∷ 1 ∷ 40960 ∷ [])
          ∷ volts 2 shows (0 ∷ 0 ∷ 0 ∷ 0 ∷ 0 ∷ 0 ∷ [])
          ∷ [];
    }
    -- "another accepted power-up starts afresh", in its own range: 10 volts below zero before it, 2.5 after it
    ∷ record {
      session = ranged 2 (load 0 ∷ clk ∷ ranged 0 (load 0 ∷ clk ∷ []));
      sights = volts 0 shows (1 ∷ 163840 ∷ 0 ∷ 0 ∷ 1 ∷ 163840 ∷ []) ∷ [];
    }
    -- a refused one, with range code 3, starts nothing afresh and keeps the range: 5 volts below zero before it, 2.5 above after it
    ∷ record {
      session = ranged 1 (mask 1 ∷ load 0 ∷ load 0xC000 ∷ clk ∷ power_up 1 3 0 2 0 ∷ clk ∷ []);
      sights = volts 0 shows (1 ∷ 327680 ∷ 0 ∷ 163840 ∷ 0 ∷ 163840 ∷ []) ∷ [];
    }
    -- initialise starts nothing afresh, and its levels count: 8000h again
    ∷ record {
      session = ranged 1 (load 0 ∷ clk ∷ bcr 0x8000 ∷ []);
      sights = volts 0 shows (1 ∷ 327680 ∷ 0 ∷ 0 ∷ 0 ∷ 0 ∷ []) ∷ [];
    }
    -- the last is the level after the last event, and not the one before it
    ∷ record {
      session = ranged 1 (mask 1 ∷ load 0xC000 ∷ load 0xA000 ∷ clk ∷ clk ∷ []);
      sights = volts 0 shows (0 ∷ 0 ∷ 0 ∷ 163840 ∷ 0 ∷ 81920 ∷ []) ∷ [];
    }
    ∷ []

abbrev pub Volts-shown : Type 0
Volts-shown = AllCases examples
