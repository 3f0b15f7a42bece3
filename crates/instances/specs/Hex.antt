-- The law of hex text met: bytes written out, in every digit.
use Rattle.std.specs.Prelude.{◌≡◌, [], ◌∷◌}
use Rattle.basics.specs.Ascii.{ascii}
use Rattle.hex_rules.specs.Hex.{whole, hex_reading}

pub record SpeltMet : Type 0 where
  pub ends : hex_reading (ascii "00FF") ≡ record { bytes = 0x00 ∷ 0xFF ∷ []; stop = whole }
  pub digits : hex_reading (ascii "1932547698ABCDEF0A")
      ≡ record { bytes = 0x19 ∷ 0x32 ∷ 0x54 ∷ 0x76 ∷ 0x98 ∷ 0xAB ∷ 0xCD ∷ 0xEF ∷ 0x0A ∷ []; stop = whole }
  pub nothing : hex_reading [] ≡ record { bytes = []; stop = whole }

-- Spelt-read
abbrev pub Spelt-met : Type 0
Spelt-met = SpeltMet
