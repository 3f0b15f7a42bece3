-- What initialise and power-up leave.
--   fresh o d m    the state that they leave, with the options o and the fitted code d over the memory m
use Prim.Native.Nat.{ℕ, ◌+◌, ◌*◌}
use mathlib.Core.Path.{◌≡◌, refl, ◌∙◌}
use mathlib.Core.Bool.{true, false}
use mathlib.Core.List.{List, append_assoc}
use native.Mathlib.Omega.{arith}
use borrow.Author.Tests.{lt-ltb, lt-leb}
use Rattle.rules.specs.Types.{Settings, Options, Size, Board, power_up, write}
use Rattle.rules.specs.Bits.{bit, bits_of, flag, number}
use Rattle.rules.specs.Record.{State, active_size, channels, values, stored}
use Rattle.rules.specs.Flags.{is_low, is_high, is_full}
use Rattle.rules.specs.Registers.{control_bits, mask_bits, rate_bits, buffer_bits, option_bits, adjust_bits, registers, read_from, read_at}
use Rattle.rules.specs.Writes.{initial, initialised, on_write}
use Rattle.rules.specs.Play.{options_of, play}
use Rattle.rules.specs.Place.{place}
use Rattle.rules.specs.Size.{initialises, code_of, size_after}
use Rattle.rules.specs.Interrupt.{request_after}
use Rattle.rules.specs.Refusals.{refusal}
use Rattle.rules.specs.Step.{step}
use Rattle.rules.specs.Laws.Initial.{Fresh, Power-up-fresh, Initialise-fresh, fields, Unpowered-zero}
use Rattle.rules.proofs.Open.{rules_open}
use Rattle.rules.proofs.Sizes.{size_pos}
use Rattle.rules.proofs.Soundness.{SoundOptions, sound_core_lem}
use Rattle.rules.proofs.Refusals.{power_up_accepted, refusal_stands}
use Rattle.rules.proofs.Readings.{number_bits_of, number_field}
use Rattle.rules.proofs.Played.{step_play}

-- ---- The flags of an empty buffer

low_empty : (z : Size) → is_low z 0 ≡ true
low_empty z = lt-ltb _ _ (size_pos z)

high_empty : (z : Size) → is_high z 0 ≡ false
high_empty z = lt-leb (3 * active_size z) 0 (omega (arith, size_pos z))

full_empty : (z : Size) → is_full z 0 ≡ false
full_empty z = lt-leb _ _ (size_pos z)

-- ---- The state they leave

fresh : Options → ℕ → List ℕ → State
fresh o d m =
    record {
      board = record {
        core = initial o;
        size = record { fitted = d; code = 15 };
        request = true;
        ring = record { first = 0; count = 0 };
      };
      memory = m;
    }

-- 10h: in range, the codes fill their fields
options_read : (o : Options) (b : Board)
    → SoundOptions o
    → b.core.options ≡ o
    → read_at b 0x10 ≡ o.firmware + 0x10000 * o.range + 0x40000 * o.filter + 0x100000 * o.kit
unfolding registers read_from option_bits number flag
options_read o b h e = rw e (simp (append_assoc, number_field, number_bits_of) (omega arith))

fresh_fresh : (o : Options) (d : ℕ) (m : List ℕ) → SoundOptions o → Fresh o d m (fresh o d m)
unfolding fresh initial channels values stored registers read_from control_bits mask_bits rate_bits buffer_bits adjust_bits number bits_of flag
fresh_fresh o d m h =
    record {
      control = refl;
      six = λ e. rw e;
      twelve = λ e. rw e;
      twenty = λ e. rw e;
      rate = refl;
      buffer = rw (low_empty, high_empty, full_empty);
      assembly = options_read o _ h refl;
      autocal = refl;
      output_data = refl;
      adjust = refl;
      powered = refl;
      options = refl;
      size = refl;
      divisor = refl;
      levels = refl;
      cursor = refl;
      burst = refl;
      settling = refl;
      calibrated = refl;
      empty = refl;
      ring = refl;
      memory = refl;
      request = refl;
    }

-- ---- Power-up

pub power_up_options : (s : State) (x : Settings) → refusal s (power_up x) ≡ 0 → SoundOptions (options_of x)
power_up_options s x h =
    let r = (power_up_accepted s x h).0 in
    record { range = r.range; filter = r.filter; kit = r.kit; firmware = r.firmware }

power_up_state : (s : State) (x : Settings) → refusal s (power_up x) ≡ 0 → (step s (power_up x)).state ≡ fresh (options_of x) x.fitted s.memory
unfolding fresh play place size_after request_after initialises
power_up_state s x h = step_play s (power_up x) (initialised (options_of x)) h refl

pub power_up_fresh : Power-up-fresh
power_up_fresh s x h =
    rw (power_up_state s x h)
    (fresh_fresh _ x.fitted s.memory (power_up_options s x h))

-- ---- Initialise

initialise_options : (s : State) (v : ℕ) → refusal s (write 0x00 v) ≡ 0 → SoundOptions s.board.core.options
initialise_options s v h = (sound_core_lem _ (refusal_stands s (write 0x00 v) tt h).sound).options

initialise_state : (s : State) (v : ℕ) → refusal s (write 0x00 v) ≡ 0 → bit 15 v ≡ true
    → (step s (write 0x00 v)).state ≡ fresh s.board.core.options s.board.size.fitted s.memory
unfolding fresh play on_write place size_after code_of request_after initialises
initialise_state s v h e = step_play s (write 0x00 v) (initialised s.board.core.options) h (rw e) ∙ rw e

pub initialise_fresh : Initialise-fresh
initialise_fresh s v h e =
    rw (initialise_state s v h e)
    (fresh_fresh _ s.board.size.fitted s.memory (initialise_options s v h))

-- ---- The unpowered record

pub unpowered_zero : Unpowered-zero
unfolding rules_open fields
unpowered_zero = record { all = refl; unsound = refl }
