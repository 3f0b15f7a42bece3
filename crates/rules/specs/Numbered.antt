-- The answers of code in document 01's numbers. 01: "For an answer that is an enum, a definition provides this paper's number and values for
-- each of the enum's cases. The promises use this definition."
--   refusal_number why    by which number an event or a rate question is refused
--   outcome_number r      that number, 0 where nothing is refused
--   answer_of r           the four numbers of an event's answer
--   figures_of r          the three numbers of a rate question's
use Rattle.std.specs.Prelude.{ℕ, Result, Ok, Err}
use Rattle.rules.specs.Types.{Refusal, Done, Frequencies, Answer}
use Rattle.rules.specs.declared.Refusal.TheVariants.{FittedCode, ShortMemory, Unsound, NoRegister, ReadOnly, Calibrating, NothingEnds}
use Rattle.rules.specs.declared.Refusal.TheVariants.{DivisorZero, ExternalClock, RangeCode, FilterCode, KitCode, Firmware}
use Rattle.rules.specs.Clocks.{fate_number}
use Rattle.rules.specs.Rates.{Figures}

-- 01: "1 power-up setting out of range", "2 sample memory shorter than the depth" and so on; 02: "1 now means the fitted code only; 14 range, 15 filter, 16 kit, 17 firmware"
unfoldable pub refusal_number : Refusal → ℕ
refusal_number FittedCode = 1
refusal_number ShortMemory = 2
refusal_number Unsound = 3
refusal_number NoRegister = 4
refusal_number ReadOnly = 5
refusal_number Calibrating = 6
refusal_number NothingEnds = 7
refusal_number DivisorZero = 8
refusal_number ExternalClock = 9
refusal_number RangeCode = 14
refusal_number FilterCode = 15
refusal_number KitCode = 16
refusal_number Firmware = 17

abbrev pub outcome_number : {A : Type 0} → Result A Refusal → ℕ
outcome_number (Ok _) = 0
outcome_number (Err why) = refusal_number why

-- 01: "On refusal the last three are 0"
abbrev pub answer_of : Result Done Refusal → Answer
answer_of (Ok d) = record { refusal = 0; register = d.register; moved = d.moved; fate = fate_number d.fate }
answer_of (Err why) = record { refusal = refusal_number why; register = 0; moved = 0; fate = 0 }

-- 01: "the last two 0 when refused"
abbrev pub figures_of : Result Frequencies Refusal → Figures
figures_of (Ok f) = record { refusal = 0; reference = f.reference; rate = f.rate }
figures_of (Err why) = record { refusal = refusal_number why; reference = 0; rate = 0 }
