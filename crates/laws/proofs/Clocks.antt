-- An accepted clock: when it moves values, and what it then leaves, in the words of the rules.
--   ClockRan s n o   the outcome o of an event that moves n of the values stored in s
use Prim.Native.Nat.{ℕ, zero, suc, ◌≤◌, ◌<◌}
use mathlib.Core.Path.{◌≡◌, refl, ap, ◌∙◌}
use mathlib.Core.Logic.{⊎_elim}
use mathlib.Core.Bool.{Bool, true, false, not, ◌&&◌, ◌||◌, true≢false, false≢true}
use native.Mathlib.Nat.{not-suc-le-zero}
use borrow.Author.Tests.{ltb-false, le-ltb, eqb-false, ne_eqb}
use lib.Dec.{ltb, eqb}
use lib.ListN.{length, take}
use Rattle.laws.specs.Types.{Core, Board, signal, Signal, tick, outside, trigger, passed, failed, settled}
use Rattle.rules.specs.Record.{State, depth, stored}
use Rattle.rules.specs.Parts.{with_burst, with_load, with_outputs}
use Rattle.rules.specs.Clocks.{Op, leave, recirculate, Play, only, closed, burst_ready, targets, idle, moving, cursor_after, laid, carries_eof, burst_ends, burst_after, load_after, outgoing, moves, clock, tick_accepted, clock_accepted, on_tick, on_outside}
use Rattle.rules.specs.Play.{on_signal, play}
use Rattle.rules.specs.Place.{place, place_of}
use Rattle.rules.specs.Size.{size_after}
use Rattle.rules.specs.Refusals.{refusal}
use Rattle.rules.specs.Step.{Outcome, played, board_before, done, step}
use Rattle.rules.specs.Laws.Soundness.{Sound}
use Rattle.rules.specs.Laws.Refused.{TickAccepted, ClockAccepted}
use Rattle.rules.specs.Laws.Closed.{Closed}
use Rattle.laws.specs.Moved.{Clocked, group_size, ReadyToMove}
use Rattle.rules.proofs.Choice.{cases, cond_true, cond_false, or_left, or_right, or_neither, neither_or}
use Rattle.laws.specs.Lists.{on_list}
use Rattle.rules.proofs.States.{closed_exactly}
use Rattle.rules.proofs.Steps.{step_done}
use Rattle.laws.specs.Kept.{Kept}
use Rattle.laws.proofs.Kept.{event_kept, stands_fit}
use Rattle.rules.proofs.Refusals.{refusal_stands}
use Rattle.laws.proofs.Targets.{targets_group, group_pos}

-- ---- Where the values go

-- 01: "All values of one clock recirculate if the buffer was closed before it, else they are discarded."
pub outgoing_open : (c : Core) (n : ℕ) → ¬ Closed c → outgoing c n ≡ leave n
unfolding outgoing
outgoing_open c n h = cases (λ (x : Op). x ≡ leave n) (closed c) (λ e. absurd (h ((closed_exactly c).0 e))) (λ _. refl)

pub outgoing_closed : (c : Core) (n : ℕ) → Closed c → outgoing c n ≡ recirculate n
unfolding outgoing
outgoing_closed c n h = rw ((closed_exactly c).1 h)

-- ---- Accepted

tick_accepted_lem : (b : Board) → TickAccepted b → tick_accepted b.core ≡ true
tick_accepted_lem b h =
    let inner : Bool = not b.core.mode.external in
    let alt : Bool = b.core.clock.alt in
    let source : inner || alt ≡ true = ⊎_elim (λ e. or_left inner alt (rw e)) (or_right inner alt) h.source in
    rw (h.enabled, source, h.uncalibrating)

clock_accepted_lem : (b : Board) → ClockAccepted b → clock_accepted b.core ≡ true
clock_accepted_lem b h = rw (h.enabled, h.external, h.direct, h.settled, h.uncalibrating)

-- an accepted clock, a tick or an outside one, plays `clock`
pub clock_plays : (s : State) (x : Signal) → Clocked x s.board → played s (signal x) ≡ clock s.board.core (stored s)
unfolding play on_signal on_tick on_outside
clock_plays s tick h = cond_true _ _ _ (tick_accepted_lem s.board h)
clock_plays s outside h = cond_true _ _ _ (clock_accepted_lem s.board h)
clock_plays s trigger h = absurd h
clock_plays s passed h = absurd h
clock_plays s failed h = absurd h
clock_plays s settled h = absurd h

-- ---- Ready to move

-- x and not y fails exactly when x says y
and_not_to : (x y : Bool) → x && not y ≡ false → x ≡ true → y ≡ true
and_not_to true true h k = refl
and_not_to true false h k = absurd (true≢false h)
and_not_to false y h k = absurd (false≢true k)

and_not_from : (x y : Bool) → (x ≡ true → y ≡ true) → x && not y ≡ false
and_not_from true y f = rw (f refl)
and_not_from false y f = refl

module _ (s : State) (sound : Sound s.board) where
  abbrev core : Core
  core = s.board.core

  -- the test of `moving`
  abbrev held : Bool
  held = idle core || ltb (length (stored s)) (length (targets core))

  ready_to : held ≡ false → ReadyToMove s
  ready_to h =
      let a = or_neither (idle core) _ h in
      let enough : length (targets core) ≤ length (stored s) = ltb-false _ _ a.1 in
      let b = or_neither (eqb core.outputs.mask 0) (burst_ready core) a.0 in
      record {
        mask = eqb-false _ _ b.0;
        burst = and_not_to core.control.bursts core.burst.running b.1;
        enough = rw (targets_group s.board sound) at enough;
      }

  ready_from : ReadyToMove s → held ≡ false
  ready_from h =
      let enough : length (targets core) ≤ length (stored s) = rw (targets_group s.board sound) h.enough in
      neither_or (idle core) _ (neither_or _ _ (ne_eqb _ _ h.mask) (and_not_from _ _ h.burst)) (le-ltb _ _ enough)

  ready_moving : ReadyToMove s → moving core (stored s) ≡ group_size s.board
  unfolding moving
  ready_moving h = cond_false _ _ _ (ready_from h) ∙ targets_group s.board sound

  unready_moving : ¬ ReadyToMove s → moving core (stored s) ≡ 0
  unfolding moving
  unready_moving h = cases (λ (n : ℕ). n ≡ 0) held (λ _. refl) (λ e. absurd (h (ready_to e)))

  pub unready_plays : (x : Signal) → Clocked x s.board → ¬ ReadyToMove s → played s (signal x) ≡ only core
  unfolding clock moves
  unready_plays x a h = clock_plays s x a ∙ ap (moves core (stored s)) (unready_moving h)

  pub ready_plays : (x : Signal) → Clocked x s.board → ReadyToMove s → played s (signal x) ≡ moves core (stored s) (group_size s.board)
  unfolding clock
  ready_plays x a h = clock_plays s x a ∙ ap (moves core (stored s)) (ready_moving h)

-- ---- What is left

-- the answer, the stored values and their places, and the core with the three parts put anew that `moves` touches
pub record ClockRan (s : State) (n : ℕ) (o : Outcome) : Type 0 where
  pub moved : o.answer.moved ≡ n
  pub lists : stored o.state ≡ on_list (outgoing s.board.core n) (stored s)
  pub places : place_of o.state ≡ place (depth s.board) (outgoing s.board.core n) (place_of s)
  pub size : o.state.board.size ≡ s.board.size
  pub core : o.state.board.core
      ≡ with_burst (burst_after (burst_ends (stored s) n) s.board.core.burst)
      (with_load (load_after (carries_eof (take n (stored s))) s.board.core.load)
      (with_outputs (record {
        mask = s.board.core.outputs.mask;
        cursor = cursor_after s.board.core;
        levels = laid s.board.core.control.binary s.board.core.outputs.levels (targets s.board.core) (take n (stored s));
      }) s.board.core))

moves_ran : (s : State) (x : Signal) (n : ℕ) → zero < n → Kept s (signal x) → played s (signal x) ≡ moves s.board.core (stored s) n
    → ClockRan s n (done s (signal x))
unfolding done board_before moves size_after
moves_ran s x zero l k p = absurd (not-suc-le-zero l)
moves_ran s x (suc n) l k p =
    record {
      moved = ap (λ (x : Play). x.moved) p;
      lists = k.lists ∙ ap (λ (x : Play). on_list x.op (stored s)) p;
      places = ap (λ (x : Play). place (depth s.board) x.op (place_of s)) p;
      size = refl;
      core = ap (λ (x : Play). x.core) p;
    }

pub clock_ran : (s : State) (x : Signal) → refusal s (signal x) ≡ 0 → Clocked x s.board → ReadyToMove s → ClockRan s (group_size s.board) (step s (signal x))
clock_ran s x z a h =
    let st = refusal_stands s (signal x) tt z in
    rw (step_done s (signal x) z)
    (moves_ran s x (group_size s.board) (group_pos s.board st.sound h.mask) (event_kept s (signal x) tt (stands_fit s st))
    (ready_plays s st.sound x a h))
