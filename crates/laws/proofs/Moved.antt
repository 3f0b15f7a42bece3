-- What an accepted clock moves, where to, what it leaves stored, and how many values any event moves.
use Prim.Native.Nat.{ℕ, zero, suc, ◌+◌, ◌≤◌, ◌<◌}
use mathlib.Core.Path.{◌≡◌, refl, sym, ap, subst, ◌∙◌}
use mathlib.Core.Logic.{◌⊎◌, inl, inr}
use mathlib.Core.Bool.{Bool, true, false, ◌||◌, cond}
use mathlib.Core.List.{List, [], ◌∷◌}
use native.Mathlib.Omega.{arith}
use lib.Dec.{ltb}
use lib.ListN.{length, get_or, take}
use lib.Seq.{length-take-le, get_or-take}
use Rattle.laws.specs.Types.{Core, Board, Event, power_up, write, read, signal, Signal, tick, outside, trigger, passed, failed, settled}
use Rattle.rules.specs.Bits.{bit, active_from}
use Rattle.rules.specs.Record.{State, stored}
use Rattle.rules.specs.Clocks.{Op, Play, closed, next_channel, targets, idle, moving, cursor_after, coded, moves, clock, tick_accepted, clock_accepted, on_tick, on_outside, on_trigger}
use Rattle.rules.specs.Writes.{write_control, write_mask, write_rate, write_adjust, buffer_of, tried, write_buffer, write_data, on_write}
use Rattle.rules.specs.Play.{calibration_ends, settles, on_signal, play}
use Rattle.rules.specs.Refusals.{refusal}
use Rattle.rules.specs.Step.{Outcome, refused, done, step}
use Rattle.rules.specs.Laws.Soundness.{Sound}
use Rattle.rules.specs.Laws.Refusals.{Ordinary}
use Rattle.rules.specs.Laws.Stays.{AllStay, all, ◌also◌}
use Rattle.laws.specs.Moved.{besides_moved, group_size, ReadyToMove, level_at, MayMove, Idle-nothing, Clock-moves, Moved-most, Moved-group, Moved-none}
use Rattle.rules.proofs.Choice.{cases, either}
use Rattle.laws.proofs.Offsets.{write_cases}
use Rattle.laws.specs.Lists.{on_list}
use Rattle.rules.proofs.Steps.{step_done, step_cases}
use Rattle.rules.proofs.Soundness.{sound_core_lem}
use Rattle.laws.proofs.Lasting.{cursor_zeroed}
use Rattle.rules.proofs.Nothing.{only_nothing}
use Rattle.rules.proofs.Refusals.{refusal_stands}
use Rattle.laws.proofs.Targets.{targets_group, targets_ascending, targets_below, targets_length}
use Rattle.laws.proofs.Levels.{coded_coding, laid_hold, laid_given}
use Rattle.laws.proofs.Clocks.{outgoing_open, outgoing_closed, unready_plays, ClockRan, clock_ran}

-- ---- A clock that is not ready to move

pub idle_nothing : Idle-nothing
idle_nothing s x z a h =
    rw (step_done s (signal x) z) (only_nothing s x (unready_plays s (refusal_stands s (signal x) tt z).sound x a h))

-- ---- A clock that is

cursor_single : (c : Core) → c.control.simultaneous ≡ false → cursor_after c ≡ get_or (targets c) 0 0 + 1
unfolding cursor_after targets
cursor_single c e = rw e

-- the i-th target's level after a clock
level_given : (s : State) (o : Outcome) → Sound s.board → length s.board.core.outputs.levels ≡ 20 → ReadyToMove s
    → ClockRan s (group_size s.board) o → (i : ℕ) → i < group_size s.board
    → level_at o.state (get_or (targets s.board.core) i 0) ≡ coded s.board.core.control.binary (get_or (stored s) i 0)
level_given s o sound twenty h r i l =
    let c = s.board.core in
    let n = group_size s.board in
    ap (λ (x : Core). get_or x.outputs.levels (get_or (targets c) i 0) 0) r.core
    ∙ laid_given c.control.binary c.outputs.levels (targets c) (take n (stored s)) i (targets_ascending c)
    (λ k m. rw twenty (targets_below s.board sound k m))
    (rw (targets_group s.board sound) l)
    (rw (length-take-le n (stored s) h.enough) l)
    ∙ ap (coded c.control.binary) (get_or-take n (stored s) i 0 l)

pub clock_moves : Clock-moves
unfolding on_list
clock_moves s x twenty z a h =
    let c = s.board.core in
    let n = group_size s.board in
    let sound = (refusal_stands s (signal x) tt z).sound in
    let r = clock_ran s x z a h in
    let o = step s (signal x) in
    record {
      whole = r.moved;
      discarded = λ k. rw r.moved (r.lists ∙ ap (λ (x : Op). on_list x (stored s)) (outgoing_open c n k));
      recirculated = λ k. rw r.moved (r.lists ∙ ap (λ (x : Op). on_list x (stored s)) (outgoing_closed c n k));
      given = λ i l. rw (level_given s o sound twenty h r i (rw r.moved at l)) (coded_coding c.control.binary (get_or (stored s) i 0));
      hold = λ k m. ap (λ (x : Core). get_or x.outputs.levels k 0) r.core ∙ laid_hold c.control.binary c.outputs.levels (targets c) _ k m;
      single = λ e. ap (λ (x : Core). x.outputs.cursor) r.core ∙ cursor_single c e;
      group = λ e. ap (λ (x : Core). x.outputs.cursor) r.core ∙ cursor_zeroed c (sound_core_lem s.board sound).outputs e;
      stays = subst (λ (x : Core). AllStay c x besides_moved) (sym r.core) (refl also refl also refl also refl also refl also refl also refl also refl also all);
      size = r.size;
    }

-- ---- How many values an event moves

moves_moved : (c : Core) (buf : List ℕ) (n : ℕ) → (moves c buf n).moved ≡ n
unfolding moves
moves_moved c buf zero = refl
moves_moved c buf (suc n) = refl

-- the core that a clock finds has the control bits and the mask of the core before the event
record SameGroup (c c' : Core) : Type 0 where
  control : c'.control ≡ c.control
  mask : c'.outputs.mask ≡ c.outputs.mask

same_group : (c : Core) → SameGroup c c
same_group c = record { control = refl; mask = refl }

buffer_group : (c : Core) (v : ℕ) → SameGroup c (buffer_of v c)
unfolding buffer_of
buffer_group c v = record { control = refl; mask = refl }

-- What holds of 0, and of what a clock moves where the event may move values, holds of what any event moves.
module _ (P : ℕ → Type 0) (nought : P 0) (buf : List ℕ) (c : Core) where
  abbrev Moving : Play → Type 0
  Moving p = P p.moved

  outside_moving : (c' : Core) → P (moving c' buf) → Moving (on_outside c' buf)
  unfolding on_outside clock
  outside_moving c' h = either Moving (clock_accepted c') (rw (moves_moved c' buf (moving c' buf)) h) nought

  signal_moving : (x : Signal) → (MayMove (signal x) → P (moving c buf)) → Moving (on_signal c buf x)
  unfolding on_signal on_tick clock on_trigger calibration_ends settles
  signal_moving tick f = either Moving (tick_accepted c) (rw (moves_moved c buf (moving c buf)) (f tt)) nought
  signal_moving outside f = outside_moving c (f tt)
  signal_moving trigger f = nought
  signal_moving passed f = nought
  signal_moving failed f = nought
  signal_moving settled f = nought

  buffer_moving : (v : ℕ) → (bit 7 v ≡ true → P (moving (buffer_of v c) buf)) → Moving (write_buffer c buf v)
  unfolding write_buffer tried
  buffer_moving v f = either Moving (bit 11 v) nought (cases Moving (bit 7 v) (λ t. outside_moving (buffer_of v c) (f t)) (λ _. nought))

  write_moving : (full : Bool) (o v : ℕ) → (MayMove (write o v) → P (moving (buffer_of v c) buf)) → Moving (on_write c buf full o v)
  unfolding write_control write_mask write_rate write_adjust write_data
  write_moving full o v f =
      write_cases Moving c buf full o v (λ _. nought) (λ _. nought) (λ _. nought) (λ _. nought)
      (λ e. buffer_moving v (λ t. f (e, t)))
      (λ _. either Moving (closed c) nought (either Moving full nought nought))
      nought

  play_moving : (full : Bool) (e : Event) → (MayMove e → (c' : Core) → SameGroup c c' → P (moving c' buf)) → Moving (play c buf full e)
  unfolding play
  play_moving full (power_up x) f = nought
  play_moving full (write o v) f = write_moving full o v (λ m. f m (buffer_of v c) (buffer_group c v))
  play_moving full (read o) f = nought
  play_moving full (signal x) f = signal_moving x (λ m. f m c (same_group c))

step_moving : (P : ℕ → Type 0) → P 0 → (s : State) (e : Event)
    → (refusal s e ≡ 0 → MayMove e → (c : Core) → SameGroup s.board.core c → P (moving c (stored s)))
    → P (step s e).answer.moved
unfolding done refused
step_moving P nought s e f =
    step_cases (λ o. P o.answer.moved) s e (λ h. play_moving P nought (stored s) s.board.core _ e (f h)) (λ _. nought)

moving_most : (c : Core) (buf : List ℕ) → moving c buf ≤ 20
unfolding moving
moving_most c buf = either (λ (n : ℕ). n ≤ 20) (idle c || ltb (length buf) (length (targets c))) (omega arith) (targets_length c)

pub moved_most : Moved-most
moved_most s e = step_moving (λ (n : ℕ). n ≤ 20) (omega arith) s e (λ _ _ c _. moving_most c (stored s))

pub moved_none : Moved-none
moved_none s e h = step_moving (λ (n : ℕ). n ≡ 0) refl s e (λ _ m. absurd (h m))

-- a clock that finds the group of a sound board moves it whole or not at all
moving_group : (b : Board) (c : Core) (buf : List ℕ) → Sound b → SameGroup b.core c → (moving c buf ≡ 0) ⊎ (moving c buf ≡ group_size b)
unfolding moving
moving_group b c buf st g =
    either (λ (n : ℕ). (n ≡ 0) ⊎ (n ≡ group_size b)) (idle c || ltb (length buf) (length (targets c))) (inl refl) (inr size)
  where
    -- in simultaneous mode the mask alone says how many, in sequential mode it is one
    counted : (t : Bool) (m k : ℕ) → length (cond t (active_from 0 m) (k ∷ [])) ≡ cond t (length (active_from 0 m)) 1
    counted true m k = refl
    counted false m k = refl

    size : length (targets c) ≡ group_size b
    size =
        unfold targets in
        counted c.control.simultaneous c.outputs.mask (next_channel c)
        ∙ (λ i. cond (g.control i).simultaneous (length (active_from 0 (g.mask i))) 1)
        ∙ sym (counted b.core.control.simultaneous b.core.outputs.mask (next_channel b.core))
        ∙ targets_group b st

-- the events that may move values are no power-ups
may_ordinary : (e : Event) → MayMove e → Ordinary e
may_ordinary (power_up x) m = m
may_ordinary (write o v) m = tt
may_ordinary (read o) m = tt
may_ordinary (signal x) m = tt

pub moved_group : Moved-group
moved_group s e =
    step_moving (λ (n : ℕ). (n ≡ 0) ⊎ (n ≡ group_size s.board)) (inl refl) s e
    (λ h m c g. moving_group s.board c (stored s) (refusal_stands s e (may_ordinary e m) h).sound g)
