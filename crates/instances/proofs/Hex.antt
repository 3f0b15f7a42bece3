-- Bytes written out are read back, by the law (specs/Instances).
use mathlib.Core.List.{[], ◌∷◌}
use lib.Dec.{lit<}
use Rattle.hex_rules.specs.Laws.{hex_digit, spelt, none, next}
use Rattle.instances.specs.Hex.{Spelt-met}
use Rattle.hex_rules.proofs.Spelt.{spelt_read}

pub spelt_met : Spelt-met
unfolding hex_digit spelt
spelt_met =
    record {
      ends = spelt_read (0x00 ∷ 0xFF ∷ []) (next (lit< tt) (next (lit< tt) none));
      digits =
          spelt_read (0x19 ∷ 0x32 ∷ 0x54 ∷ 0x76 ∷ 0x98 ∷ 0xAB ∷ 0xCD ∷ 0xEF ∷ 0x0A ∷ [])
          (next (lit< tt) (next (lit< tt) (next (lit< tt) (next (lit< tt) (next (lit< tt) (next (lit< tt)
          (next (lit< tt) (next (lit< tt) (next (lit< tt) none)))))))));
      nothing = spelt_read [] none;
    }
