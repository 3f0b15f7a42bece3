-- The promise of the public function: it fixes the answer and every byte of the output.
use Rattle.std.specs.Prelude.{ℕ, ◌≡◌, cond, List, ◌++◌, ltb, length, take, drop, Result, Ok, Err}
use Rattle.hex_text.specs.declared.error.HexError.{HexError}
use Rattle.hex_text.specs.declared.error.HexError.TheVariants.{Full, NotHex}
use Rattle.hex_rules.specs.Hex.{Stop, whole, bad, HexReading, hex_reading}

-- how many bytes, or at which place it is no hex text
abbrev pub on_stop : ℕ → Stop → Result ℕ HexError
on_stop n whole = Ok n
on_stop n (bad at) = Err (NotHex at)

-- a text that says more bytes than there is room for is told as that, whatever it says behind them
unfoldable pub decoded : ℕ → HexReading → Result ℕ HexError
decoded room x = cond (ltb room (length x.bytes)) (Err Full) (on_stop (length x.bytes) x.stop)

-- the bytes from the start of the output on, as far as there is room; the rest of it as it was
unfoldable pub laid_over : List ℕ → List ℕ → List ℕ
laid_over out bytes = take (length out) bytes ++ drop (length bytes) out

pub record Decodes (text out : List ℕ) (r : Result ℕ HexError) (out' : List ℕ) : Type 0 where
  pub answer : r ≡ decoded (length out) (hex_reading text)
  pub output : out' ≡ laid_over out (hex_reading text).bytes
