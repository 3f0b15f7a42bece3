-- The refusal of an event as a choice: of a power-up, its first bad setting's number, else 2; of any other event, 3, else 2, else a
-- number of its own, which the core alone decides. It is no law, since it repeats the order of Refusals.antt: the law is
-- Refusal-exactly. It is what code and the proofs above are held to.
use Rattle.std.specs.Prelude.{ℕ, ◌≡◌, not, cond, eqb}
use Rattle.rules.specs.Types.{Settings, Core, Event, power_up, write, read, signal}
use Rattle.rules.specs.Record.{State, depth_of, depth, sound}
use Rattle.rules.specs.Registers.{is_offset}
use Rattle.rules.specs.Refusals.{too_short, is_read_only, ends_nothing, setting_refusal, refusal}
use Rattle.rules.specs.Laws.Refusals.{Ordinary}

unfoldable pub own_write : Core → ℕ → ℕ
own_write c o = cond (not (is_offset o)) 4 (cond (is_read_only o) 5 (cond c.calibration.running 6 0))

unfoldable pub own_number : Core → Event → ℕ
own_number c (power_up x) = 0
own_number c (write o v) = own_write c o
own_number c (read o) = cond (not (is_offset o)) 4 0
own_number c (signal x) = cond (ends_nothing c x) 7 0

abbrev pub Power-up-own : Type 0
Power-up-own =
    (s : State) (x : Settings)
    → refusal s (power_up x) ≡ cond (eqb (setting_refusal x) 0) (cond (too_short s.memory (depth_of x.fitted)) 2 0) (setting_refusal x)

abbrev pub Refusal-own : Type 0
Refusal-own =
    (s : State) (e : Event) → Ordinary e
    → refusal s e ≡ cond (not (sound s.board)) 3 (cond (too_short s.memory (depth s.board)) 2 (own_number s.board.core e))
