-- Texts, each with the bytes that it says and how it ends: the rules of Hex.antt seen one by one.
use Rattle.std.specs.Prelude.{ℕ, ◌≡◌, List, [], ◌∷◌, ◌++◌}
use Rattle.basics.specs.Ascii.{ascii, nul, tab, return}
use Rattle.hex_rules.specs.Hex.{Stop, whole, bad, hex_reading}

-- ---- Rows

pub record HexRow : Type 0 where
  pub text : List ℕ
  pub bytes : List ℕ
  pub stop : Stop

unfoldable pub hex_table : List HexRow
hex_table =
    -- nothing
    record { text = []; bytes = []; stop = whole }
    -- 9Fa0: digits in capitals and in small letters, two bytes in one word
    ∷ record { text = ascii "9Fa0"; bytes = 159 ∷ 160 ∷ []; stop = whole }
    -- 01, a space, 02, a tab, 03, a new line, 04
    ∷ record {
      text = ascii "01 02" ++ tab ∷ ascii "03\n04";
      bytes = 1 ∷ 2 ∷ 3 ∷ 4 ∷ [];
      stop = whole;
    }
    -- 01#02, a new line, 03: a comment ends with its line
    ∷ record { text = ascii "01#02\n03"; bytes = 1 ∷ 3 ∷ []; stop = whole }
    -- #G#é: a comment may say anything that can be seen
    ∷ record { text = ascii "#G#" ++ 195 ∷ 169 ∷ []; bytes = []; stop = whole }
    -- 01 and 02 in lines that end in a carriage return and a new line, the second with a comment
    ∷ record {
      text = ascii "01" ++ return ∷ ascii "\n02#" ++ return ∷ ascii "\n";
      bytes = 1 ∷ 2 ∷ [];
      stop = whole;
    }
    -- a byte order mark, then 01
    ∷ record { text = 239 ∷ 187 ∷ 191 ∷ ascii "01"; bytes = 1 ∷ []; stop = whole }
    -- a byte order mark behind the first byte
    ∷ record { text = ascii "01" ++ 239 ∷ 187 ∷ 191 ∷ []; bytes = 1 ∷ []; stop = bad 2 }
    -- 012: an odd digit is told at its own place
    ∷ record { text = ascii "012"; bytes = 1 ∷ []; stop = bad 2 }
    -- 0 1: a byte's digits stand together
    ∷ record { text = ascii "0 1"; bytes = []; stop = bad 0 }
    -- 0/, 0:, 0@, 0G, 0`, 0g: the characters beside the digits
    ∷ record { text = ascii "0/"; bytes = []; stop = bad 0 }
    ∷ record { text = ascii "0:"; bytes = []; stop = bad 0 }
    ∷ record { text = ascii "0@"; bytes = []; stop = bad 0 }
    ∷ record { text = ascii "0G"; bytes = []; stop = bad 0 }
    ∷ record { text = ascii "0`"; bytes = []; stop = bad 0 }
    ∷ record { text = ascii "0g"; bytes = []; stop = bad 0 }
    -- G0: other letters
    ∷ record { text = ascii "G0"; bytes = []; stop = bad 0 }
    -- a carriage return that ends no line, by itself and in a comment
    ∷ record { text = ascii "01" ++ return ∷ ascii "02"; bytes = 1 ∷ []; stop = bad 2 }
    ∷ record { text = ascii "#" ++ return ∷ ascii "02"; bytes = []; stop = bad 1 }
    -- a NUL, between bytes, inside one and in a comment; another control character; the character 127
    ∷ record { text = ascii "01" ++ nul ∷ ascii "02"; bytes = 1 ∷ []; stop = bad 2 }
    ∷ record { text = ascii "0" ++ nul ∷ ascii "1"; bytes = []; stop = bad 0 }
    ∷ record { text = ascii "#" ++ nul ∷ []; bytes = []; stop = bad 1 }
    ∷ record { text = ascii "#" ++ 27 ∷ []; bytes = []; stop = bad 1 }
    ∷ record { text = ascii "#" ++ 127 ∷ []; bytes = []; stop = bad 1 }
    -- 0123456789, ABCDEF, abcdef: each digit by its worth, as the first and as the second of a byte
    ∷ record { text = ascii "0123456789"; bytes = 0x01 ∷ 0x23 ∷ 0x45 ∷ 0x67 ∷ 0x89 ∷ []; stop = whole }
    ∷ record { text = ascii "1032547698"; bytes = 0x10 ∷ 0x32 ∷ 0x54 ∷ 0x76 ∷ 0x98 ∷ []; stop = whole }
    ∷ record { text = ascii "ABCDEF"; bytes = 0xAB ∷ 0xCD ∷ 0xEF ∷ []; stop = whole }
    ∷ record { text = ascii "BADCFE"; bytes = 0xBA ∷ 0xDC ∷ 0xFE ∷ []; stop = whole }
    ∷ record { text = ascii "abcdef"; bytes = 0xAB ∷ 0xCD ∷ 0xEF ∷ []; stop = whole }
    ∷ record { text = ascii "badcfe"; bytes = 0xBA ∷ 0xDC ∷ 0xFE ∷ []; stop = whole }
    -- 1, 8, 11, 12, 14 and 31: control characters beside the tab, the new line and the carriage return, and the last of them
    ∷ record { text = ascii "01" ++ 1 ∷ ascii "02"; bytes = 1 ∷ []; stop = bad 2 }
    ∷ record { text = ascii "#" ++ 1 ∷ []; bytes = []; stop = bad 1 }
    ∷ record { text = ascii "01" ++ 8 ∷ ascii "02"; bytes = 1 ∷ []; stop = bad 2 }
    ∷ record { text = ascii "#" ++ 8 ∷ []; bytes = []; stop = bad 1 }
    ∷ record { text = ascii "01" ++ 11 ∷ ascii "02"; bytes = 1 ∷ []; stop = bad 2 }
    ∷ record { text = ascii "#" ++ 11 ∷ []; bytes = []; stop = bad 1 }
    ∷ record { text = ascii "01" ++ 12 ∷ ascii "02"; bytes = 1 ∷ []; stop = bad 2 }
    ∷ record { text = ascii "#" ++ 12 ∷ []; bytes = []; stop = bad 1 }
    ∷ record { text = ascii "01" ++ 14 ∷ ascii "02"; bytes = 1 ∷ []; stop = bad 2 }
    ∷ record { text = ascii "#" ++ 14 ∷ []; bytes = []; stop = bad 1 }
    ∷ record { text = ascii "01" ++ 31 ∷ ascii "02"; bytes = 1 ∷ []; stop = bad 2 }
    ∷ record { text = ascii "#" ++ 31 ∷ []; bytes = []; stop = bad 1 }
    -- a carriage return at the very end
    ∷ record { text = ascii "01" ++ return ∷ []; bytes = 1 ∷ []; stop = bad 2 }
    ∷ record { text = ascii "#" ++ return ∷ []; bytes = []; stop = bad 1 }
    -- parts of a byte order mark: EF; EF BB; EF BB, then 01; EF BB BE, then 01; BB BF, then 01
    ∷ record { text = 239 ∷ []; bytes = []; stop = bad 0 }
    ∷ record { text = 239 ∷ 187 ∷ []; bytes = []; stop = bad 0 }
    ∷ record { text = 239 ∷ 187 ∷ ascii "01"; bytes = []; stop = bad 0 }
    ∷ record { text = 239 ∷ 187 ∷ 190 ∷ ascii "01"; bytes = []; stop = bad 0 }
    ∷ record { text = 187 ∷ 191 ∷ ascii "01"; bytes = []; stop = bad 0 }
    -- a byte order mark alone; and only one of two is skipped
    ∷ record { text = 239 ∷ 187 ∷ 191 ∷ []; bytes = []; stop = whole }
    ∷ record { text = 239 ∷ 187 ∷ 191 ∷ 239 ∷ 187 ∷ 191 ∷ []; bytes = []; stop = bad 3 }
    -- a space, a tab and a new line, and no byte
    ∷ record { text = ascii " " ++ tab ∷ ascii "\n"; bytes = []; stop = whole }
    -- a digit before a new line and before a comment: a byte's digits stand together
    ∷ record { text = ascii "0\n1"; bytes = []; stop = bad 0 }
    ∷ record { text = ascii "0#1"; bytes = []; stop = bad 0 }
    -- 01 02, a tab, 03#x, a carriage return and a new line, 04, all in numbers: the characters named above are these
    ∷ record {
      text = 48 ∷ 49 ∷ 32 ∷ 48 ∷ 50 ∷ 9 ∷ 48 ∷ 51 ∷ 35 ∷ 120 ∷ 13 ∷ 10 ∷ 48 ∷ 52 ∷ [];
      bytes = 1 ∷ 2 ∷ 3 ∷ 4 ∷ [];
      stop = whole;
    }
    -- é between bytes
    ∷ record { text = ascii "01" ++ 195 ∷ 169 ∷ []; bytes = 1 ∷ []; stop = bad 2 }
    ∷ []

pub data AllRead : List HexRow → Type 0 where
  none : AllRead []
  next : {r : HexRow} {rs : List HexRow} → hex_reading r.text ≡ record { bytes = r.bytes; stop = r.stop } → AllRead rs → AllRead (r ∷ rs)

abbrev pub Table-read : Type 0
Table-read = AllRead hex_table
