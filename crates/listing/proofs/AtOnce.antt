-- Events done at once: what they change is what the step says.
use Prim.Native.Nat.{ℕ, ◌%◌, ◌≤◌, ◌<◌}
use mathlib.Core.Path.{◌≡◌, refl, sym, ap, subst, ◌∙◌}
use mathlib.Core.Bool.{Bool, true, false, false≢true}
use mathlib.Core.List.{List}
use native.Mathlib.Nat.{le_refl, min-eq_right}
use native.Mathlib.Omega.{arith}
use borrow.Author.Tests.{eqb-true, leb-true, leb-false, not-true, lt-leb}
use lib.Dec.{leb}
use Rattle.std.specs.Prelude.{Ok}
use Rattle.rules.specs.declared.Signal.TheVariants.{Tick as tick}
use Rattle.rules.specs.declared.Event.{Event}
use Rattle.rules.specs.declared.Event.TheVariants.{Write, Signal as signal}
use Rattle.rules.specs.declared.Core.{Core}
use Rattle.rules.specs.declared.Board.{Board}
use Rattle.rules.specs.Record.{State, value_span, depth_of, depth, active_size, stored}
use Rattle.rules.specs.Clocks.{Play, store, fate_number, closed, tick_accepted, clock, on_tick}
use Rattle.rules.specs.declared.Fate.TheVariants.{Stored as was_stored}
use Rattle.rules.specs.Flags.{is_full}
use Rattle.rules.specs.Writes.{write_data, on_write}
use Rattle.rules.specs.Play.{on_signal, play}
use Rattle.rules.specs.Place.{place}
use Rattle.rules.specs.Size.{initialises, code_of, size_after}
use Rattle.rules.specs.Interrupt.{conditions, condition, request_held, edge, request_after}
use Rattle.rules.specs.Refusals.{refusal}
use Rattle.rules.specs.Step.{reading, played, board_before, with_request}
use Rattle.rules.specs.Laws.Soundness.{Stands}
use Rattle.rules.specs.Laws.Refusals.{written, heard, a_tick}
use Rattle.rules.proofs.Choice.{all_cons, and_both, and_true, cond_true}
use Rattle.rules.proofs.Refusals.{refusal_exactly}
use Rattle.moves.specs.declared.Played.{Played}
use Rattle.moves.specs.declared.Stored.{Stored}
use Rattle.moves.specs.Ready.{Ready}
use Rattle.moves.specs.Does.{Does, ring_place, ring_values}
use Rattle.moves.specs.Promises.{with_levels, LoadsOne}
use Rattle.moves.proofs.Tested.{load_whole}
use Rattle.board.specs.Promises.{Stepped}
use Rattle.board.proofs.Standing.{stands_ready}
use Rattle.board.proofs.Whole.{done_stepped}
use Rattle.listing.specs.declared.shortcuts.Common.{Common}
use Rattle.listing.specs.declared.shortcuts.Common.TheVariants.{Load, Tick}
use Rattle.listing.specs.Shortcuts.{takes, ticks, quick, board_with}

-- ---- Which event it is

pub quick_load : (b : Board) (d : ℕ) (x : Common) (v : ℕ) → x ≡ Load v → quick b d x ≡ true → (b.core.powered ≡ true) × (takes b d ≡ true)
quick_load b d x v h q = and_both b.core.powered _ (sym (ap (quick b d) h) ∙ q)

pub quick_tick : (b : Board) (d : ℕ) (x : Common) → x ≡ Tick → quick b d x ≡ true → (b.core.powered ≡ true) × (ticks b.core ≡ true)
quick_tick b d x h q = and_both b.core.powered _ (sym (ap (quick b d) h) ∙ q)

-- ---- Events that read nothing and leave size, request and selection alone

record Quiet (b : Board) (e : Event) : Type 0 where
  reads : reading b e ≡ 0
  sizes : size_after b.size e ≡ b.size
  holds : request_held b.request e ≡ b.request
  plain : initialises e ≡ false

load_quiet : (b : Board) (v : ℕ) → Quiet b (Write 0x18 v)
unfolding reading size_after code_of request_held initialises
load_quiet b v = record { reads = refl; sizes = refl; holds = and_true b.request; plain = refl }

tick_quiet : (b : Board) → Quiet b (signal tick)
unfolding reading size_after request_held initialises
tick_quiet b = record { reads = refl; sizes = refl; holds = refl; plain = refl }

-- no interrupt is selected, before and after: no edge
request_quiet : (e : Event) (b b' : Board) → initialises e ≡ false → b.core.control.selection ≡ 0 → b'.core.control.selection ≡ 0
    → request_after e b b' ≡ b'.request
unfolding request_after condition conditions edge
request_quiet e b b' i p q = rw (i, p, q)

module _ (s : State) (e : Event) (p : Played) (m' : List ℕ) where
  quick_stepped : refusal s e ≡ 0 → Quiet s.board e → s.board.core.control.selection ≡ 0 → p.core.control.selection ≡ 0
      → Does (depth s.board) (played s e) s.board.ring s.memory p m'
      → Stepped s.board s.memory e
      (record {
        answer = Ok (record { register = 0; moved = p.moved; fate = p.fate });
        board = record { core = p.core; size = s.board.size; request = s.board.request; ring = p.ring };
      }) m'
  unfolding board_before
  quick_stepped z k sb sp d =
      let a : Board = record { core = p.core; size = s.board.size; request = s.board.request; ring = p.ring } in
      let same : a ≡ board_before s e = λ i. record { core = d.core i; size = sym k.sizes i; request = sym k.holds i; ring = d.ring i } in
      done_stepped s e _ m' z
      (λ i. record { refusal = 0; register = sym k.reads i; moved = d.moved i; fate = d.fate i })
      ((λ i. with_request (sym (request_quiet e s.board a k.plain sb sp) i) a) ∙ ap (λ (x : Board). with_request (request_after e s.board x) x) same)
      d.memory

-- ---- A load that is stored

record Takes (b : Board) (d : ℕ) : Type 0 where
  unselected : b.core.control.selection ≡ 0
  free : b.core.calibration.running ≡ false
  unclosed : closed b.core ≡ false
  whole : b.size.fitted ≤ b.size.code
  below : b.ring.count < d

takes_says : (b : Board) (d : ℕ) → takes b d ≡ true → Takes b d
unfolding takes
takes_says b d h =
    let h1 = all_cons _ _ h in
    let h2 = all_cons _ _ h1.1 in
    let h3 = all_cons _ _ h2.1 in
    let h4 = all_cons _ _ h3.1 in
    let h5 = all_cons _ _ h4.1 in
    record {
      unselected = eqb-true _ _ h1.0;
      free = not-true _ h2.0;
      unclosed = not-true _ h3.0;
      whole = leb-true _ _ h4.0;
      below = leb-false _ _ (not-true _ h5.0);
    }

-- the active size of a buffer that is not cut is the depth
size_whole : (b : Board) → b.size.fitted ≤ b.size.code → active_size b.size ≡ depth b
unfolding active_size depth_of
size_whole b h = rw (min-eq_right h)

abbrev stays : Core → ℕ → Play
stays c v = record { core = c; op = store (v % value_span); moved = 0; fate = was_stored }

load_written : (c : Core) (full : Bool) (v : ℕ) → closed c ≡ false → full ≡ false → write_data c full v ≡ stays c v
unfolding write_data
load_written c full v h k = rw (h, k)

load_played : (s : State) (v : ℕ) → closed s.board.core ≡ false → is_full s.board.size s.board.ring.count ≡ false
    → played s (Write 0x18 v) ≡ stays s.board.core v
unfolding play on_write
load_played s v h k = load_written s.board.core _ v h k

module _ (s : State) (d v : ℕ) (st : Stands s) (e : d ≡ depth s.board) (t : takes s.board d ≡ true) where
  -- r is what `load` told of a core that takes it too
  pub stored_stepped : (c : Core) (r : Stored) (m' : List ℕ) → closed c ≡ closed s.board.core
      → LoadsOne c d s.board.ring d v s.memory r m'
      → Stepped s.board s.memory (Write 0x18 v)
      (record {
        answer = Ok (record { register = 0; moved = 0; fate = r.fate });
        board = record { core = s.board.core; size = s.board.size; request = s.board.request; ring = r.ring };
      }) m'
  stored_stepped c r m' same l =
      let w = takes_says s.board d t in
      let full = lt-leb _ _ w.below in
      let p : Played = record { core = s.board.core; ring = r.ring; moved = 0; fate = r.fate } in
      let a : Ready d s.board.ring s.memory = subst (λ (k : ℕ). Ready k s.board.ring s.memory) (sym e) (stands_ready s st) in
      let y = load_whole c d s.board.ring d v s.memory a (le_refl d) ∙ load_written c _ v (same ∙ w.unclosed) full in
      let z : Does d (stays s.board.core v) s.board.ring s.memory p m' =
      record {
        core = refl;
        moved = refl;
        fate = l.fate ∙ ap (λ (q : Play). fate_number q.fate) y;
        ring = l.ring ∙ ap (λ (q : Play). (place d q.op (ring_place s.board.ring s.memory)).ring) y;
        memory = l.memory ∙ ap (λ (q : Play). (place d q.op (ring_place s.board.ring s.memory)).memory) y;
      } in
      let size : is_full s.board.size s.board.ring.count ≡ false = ap (λ (n : ℕ). leb n s.board.ring.count) (size_whole s.board w.whole ∙ sym e) ∙ full in
      let n = (refusal_exactly s (Write 0x18 v) 0).1
      (written st (record { aligned = refl; low = omega arith }) (λ q. absurd (omega arith)) (λ q. absurd (omega arith)) (λ q. false≢true (sym w.free ∙ q))) in
      quick_stepped s (Write 0x18 v) p m' n (load_quiet s.board v) w.unselected w.unselected
      (subst (λ (k : ℕ). Does k (played s (Write 0x18 v)) s.board.ring s.memory p m') e
      (subst (λ (q : Play). Does d q s.board.ring s.memory p m') (sym (load_played s v w.unclosed size)) z))

-- ---- A tick

tick_played : (s : State) → tick_accepted s.board.core ≡ true → played s (signal tick) ≡ clock s.board.core (stored s)
unfolding play on_signal on_tick
tick_played s h = cond_true _ _ _ h

ticks_says : (c : Core) → ticks c ≡ true → (c.control.selection ≡ 0) × (tick_accepted c ≡ true)
unfolding ticks
ticks_says c h =
    let h1 = all_cons _ _ h in
    let h2 = all_cons _ _ h1.1 in
    (eqb-true _ _ h1.0, h2.0)

module _ (s : State) (d : ℕ) (st : Stands s) (e : d ≡ depth s.board) (t : ticks s.board.core ≡ true) where
  pub ticked_stepped : (p : Played) (m' : List ℕ) → p.core.control.selection ≡ s.board.core.control.selection
      → Does d (clock s.board.core (ring_values d s.board.ring s.memory)) s.board.ring s.memory p m'
      → Stepped s.board s.memory (signal tick)
      (record {
        answer = Ok (record { register = 0; moved = p.moved; fate = p.fate });
        board = record { core = p.core; size = s.board.size; request = s.board.request; ring = p.ring };
      }) m'
  unfolding stored
  ticked_stepped p m' same x =
      let w = ticks_says s.board.core t in
      let y = subst (λ (k : ℕ). Does k (clock s.board.core (ring_values k s.board.ring s.memory)) s.board.ring s.memory p m') e x in
      quick_stepped s (signal tick) p m' ((refusal_exactly s (signal tick) 0).1 (heard a_tick st)) (tick_quiet s.board) w.0 (same ∙ w.0)
      (subst (λ (q : Play). Does (depth s.board) q s.board.ring s.memory p m') (sym (tick_played s w.1)) y)

-- the test of the code does not look at the levels
pub takes_with : (b : Board) (d : ℕ) (ls : List ℕ) → takes (board_with b ls) d ≡ takes b d
unfolding takes
takes_with b d ls = refl

pub ticks_with : (c : Core) (ls : List ℕ) → ticks (with_levels c ls) ≡ ticks c
unfolding ticks
ticks_with c ls = refl
