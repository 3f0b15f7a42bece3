-- What is stored after an event that is done on a state whose values have their places (specs/Kept.antt).
use Prim.Native.Nat.{ℕ, ◌≤◌}
use mathlib.Core.Path.{◌≡◌, refl}
use mathlib.Core.Bool.{◌&&◌}
use native.Mathlib.Nat.{le_refl, le_of_eq}
use native.Mathlib.Omega.{arith}
use lib.Dec.{eqb}
use Rattle.laws.specs.Types.{Size, Event, power_up, write, read, signal}
use Rattle.rules.specs.Bits.{bit}
use Rattle.rules.specs.Record.{State, depth, stored}
use Rattle.rules.specs.Flags.{is_full}
use Rattle.rules.specs.Place.{place_of}
use Rattle.rules.specs.Size.{code_of, size_after}
use Rattle.rules.specs.Step.{played, placed, board_before, done}
use Rattle.laws.specs.Lists.{Placed, on_list}
use Rattle.laws.specs.Kept.{Fit, Stands-fit, Fit-sound, Fit-stands, Fitted-kept, Event-kept}
use Rattle.rules.proofs.Choice.{either}
use Rattle.rules.proofs.Sizes.{depth_pos, full_room}
use Rattle.rules.proofs.Steps.{stored_length}
use Rattle.rules.proofs.Soundness.{SoundRing, core_to, ring_from, sound_parts}
use Rattle.laws.proofs.Places.{place_listed}
use Rattle.laws.proofs.Allowed.{play_allowed}

-- ---- The stored values have their places

fit_ring : (s : State) → Fit s → SoundRing s.board.size s.board.ring
fit_ring s f = record { fitted = f.fitted; code = f.code; first = f.good.first_lt; count = f.good.count_le }

pub fit_sound : Fit-sound
fit_sound s f = ring_from _ _ (fit_ring s f)

pub stands_fit : Stands-fit
stands_fit s h =
    record {
      good = record { first_lt = h.sound.first; count_le = h.sound.count; enough = h.enough };
      fitted = h.sound.fitted;
      code = h.sound.code;
    }

pub fit_stands : Fit-stands
fit_stands s c f = record { sound = sound_parts s.board (core_to _ c) (fit_ring s f); enough = f.good.enough }

-- ---- Sizes

pub fitted_kept : Fitted-kept
unfolding size_after
fitted_kept z (power_up x) h = absurd h
fitted_kept z (write o v) h = refl
fitted_kept z (read o) h = refl
fitted_kept z (signal x) h = refl

code_kept : (z : Size) (e : Event) → z.code ≤ 15 → (size_after z e).code ≤ 15
unfolding size_after code_of
code_kept z (power_up x) h = le_refl 15
code_kept z (write o v) h =
    either (λ (n : ℕ). n ≤ 15) (eqb o 0x0C) (omega arith) (either (λ (n : ℕ). n ≤ 15) (eqb o 0x00 && bit 15 v) (le_refl 15) h)
code_kept z (read o) h = h
code_kept z (signal x) h = h

-- ---- What is stored after an event that is done

pub event_kept : Event-kept
unfolding done board_before stored
event_kept s e o f =
    let d : ℕ = depth s.board in
    let n : ℕ = s.board.ring.count in
    let a : Placed d (place_of s) (placed s e) (on_list (played s e).op (stored s)) =
    place_listed d (played s e).op (place_of s) f.good
    (play_allowed d n s.board.core (stored s) (is_full s.board.size n) e (depth_pos s.board.size.fitted)
    (le_of_eq (stored_length s)) (full_room s.board.size n)) in
    let q : (size_after s.board.size e).fitted ≡ s.board.size.fitted = fitted_kept s.board.size e o in
    record {
      fit = record {
        good = rw q a.good;
        fitted = rw q f.fitted;
        code = code_kept s.board.size e f.code;
      };
      lists = rw q a.lists;
      same = a.same;
    }
