-- The interrupt request follows the edges of the selected condition.
use Prim.Native.Nat.{ℕ, zero, suc, ◌*◌}
use mathlib.Core.Path.{◌≡◌, refl, sym, ap, ◌∙◌, subst}
use mathlib.Core.Logic.{◌↔◌}
use mathlib.Core.Bool.{Bool, true, false, not, ◌&&◌, ◌||◌, true≢false, false≢true}
use mathlib.Core.List.{List, [], ◌∷◌}
use native.Mathlib.Omega.{arith}
use borrow.Author.Tests.{leb-true, ltb-true, le-leb, lt-ltb, eqb-true, eq-eqb, ne_eqb}
use lib.Dec.{eqb}
use lib.ListN.{length, get_or}
use Rattle.rules.specs.Types.{Board, Event, power_up, write, read, signal}
use Rattle.rules.specs.Bits.{bit}
use Rattle.rules.specs.Record.{State, stored, active_size}
use Rattle.rules.specs.Size.{initialises}
use Rattle.rules.specs.Interrupt.{conditions, condition, request_held, edge, request_after}
use Rattle.rules.specs.Step.{with_request, board_before, done}
use Rattle.rules.specs.Laws.Interrupts.{selected, Condition, calibrated, empty, low, high, burst, load_ready, not_load_ready, Initialises, up, set, Clears, clears, Held, Condition-exactly, Request-initialised, Edge, Request-edge}
use Rattle.rules.proofs.Choice.{and_true, not_true, not_both}
use Rattle.rules.proofs.States.{closed_exactly, closed_not, burst_ready_exactly}
use Rattle.rules.proofs.Nothing.{edge_same}
use Rattle.rules.proofs.Steps.{step_done, stored_length}

-- ---- The condition

nil_length : (l : List ℕ) → length l ≡ 0 → l ≡ []
nil_length [] h = refl
nil_length (x ∷ xs) h = absurd (omega arith)

module _ (s : State) where
  -- from the flag at the selected number to the condition
  condition_to : (n : ℕ) → selected s ≡ n → get_or (conditions s.board) n false ≡ true → Condition s
  unfolding conditions
  condition_to zero e h = absurd (false≢true h)
  condition_to (suc zero) e h = calibrated e h
  condition_to (suc (suc zero)) e h = empty e (nil_length (stored s) (stored_length s ∙ eqb-true _ _ h))
  condition_to (suc (suc (suc zero))) e h = low e (rw stored_length (ltb-true _ _ h))
  condition_to (suc (suc (suc (suc zero)))) e h = high e (rw stored_length (leb-true _ _ h))
  condition_to (suc (suc (suc (suc (suc zero))))) e h = let t = (burst_ready_exactly s.board.core).0 h in burst e t.0 t.1
  condition_to (suc (suc (suc (suc (suc (suc zero)))))) e h = load_ready e ((closed_not s.board.core).0 (not_true _ (not_both _ h)))
  condition_to (suc (suc (suc (suc (suc (suc (suc zero))))))) e h = not_load_ready e ((closed_exactly s.board.core).0 h)
  condition_to (suc (suc (suc (suc (suc (suc (suc (suc n)))))))) e h = absurd (false≢true h)

  condition_from : Condition s → condition s.board ≡ true
  unfolding condition conditions
  condition_from (calibrated e h) = rw e h
  condition_from (empty e h) = rw e (eq-eqb _ _ (sym (stored_length s) ∙ ap length h))
  condition_from (low e h) = rw e (lt-ltb (4 * s.board.ring.count) (active_size s.board.size) (omega (arith, stored_length s)))
  condition_from (high e h) = rw e (le-leb (3 * active_size s.board.size) (4 * s.board.ring.count) (omega (arith, stored_length s)))
  condition_from (burst e h k) = rw e ((burst_ready_exactly s.board.core).1 (h, k))
  condition_from (load_ready e h) = rw (e, (closed_not s.board.core).1 h)
  condition_from (not_load_ready e h) = rw e ((closed_exactly s.board.core).1 h)

pub condition_exactly : Condition-exactly
unfolding condition
condition_exactly s = (condition_to s _ refl, condition_from s)

-- ---- What the event leaves of the request

held_cleared : (q : Bool) {e : Event} → Clears e → request_held q e ≡ false
unfolding request_held
held_cleared true (clears h) = h
held_cleared false (clears h) = refl

held_left : (q : Bool) (e : Event) → ¬ Clears e → request_held q e ≡ q
unfolding request_held
held_left q (power_up x) h = refl
held_left q (write o v) h = go (eqb o 0x00) refl (bit 11 v) refl
  where
    go : (z : Bool) → eqb o 0x00 ≡ z → (t : Bool) → bit 11 v ≡ t → q && (not z || t) ≡ q
    go true z true t = and_true q
    go true z false t = absurd (h (subst (λ (x : ℕ). Clears (write x v)) (sym (eqb-true o 0x00 z)) (clears t)))
    go false z t k = and_true q
held_left q (read o) h = refl
held_left q (signal x) h = refl

held : (q : Bool) (e : Event) → Held e q (request_held q e)
held q e = record { cleared = held_cleared q; left = held_left q e }

initialises_to : {e : Event} → Initialises e → initialises e ≡ true
unfolding initialises
initialises_to up = refl
initialises_to (set h) = h

initialises_not : (e : Event) → ¬ Initialises e → initialises e ≡ false
unfolding initialises
initialises_not (power_up x) h = absurd (h up)
initialises_not (write o v) h = go (eqb o 0x00) refl
  where
    go : (z : Bool) → eqb o 0x00 ≡ z → z && bit 15 v ≡ false
    go true z = not_true _ (λ t. h (subst (λ (x : ℕ). Initialises (write x v)) (sym (eqb-true o 0x00 z)) (set t)))
    go false z = refl
initialises_not (read o) h = refl
initialises_not (signal x) h = refl

pub request_initialised : Request-initialised
unfolding done request_after
request_initialised s e h k = rw (step_done s e h, initialises_to k)

-- ---- The edge

-- the request is no part of the condition
condition_request : (q : Bool) (b : Board) → condition (with_request q b) ≡ condition b
unfolding condition conditions
condition_request q b = refl

module _ (s : State) (e : Event) (k : ¬ Initialises e) where
  -- the state after the event
  s' : State
  s' = (done s e).state

  before : Bool
  before = condition s.board

  behind : Bool
  behind = condition (board_before s e)

  behind_exactly : (behind ≡ true) ↔ Condition s'
  unfolding behind s' done
  behind_exactly =
      let c = condition_exactly s' in
      let r = condition_request (request_after e s.board (board_before s e)) (board_before s e) in
      (λ h. c.0 (r ∙ h), λ h. sym r ∙ c.1 h)

  -- the selection unchanged
  edge_of : selected s' ≡ selected s → s'.board.request ≡ edge before behind (request_held s.board.request e)
  unfolding s' before behind done board_before request_after
  edge_of z = rw (initialises_not e k, eq-eqb _ _ (sym z))

  request_edges : Edge s e s'
  unfolding before edge
  request_edges =
      record {
        changed = λ z. unfold s' done board_before request_after in rw (initialises_not e k, ne_eqb _ _ (λ y. z (sym y))) (held s.board.request e);
        rise = λ z n c. edge_of z ∙ rw (not_true before (λ t. n ((condition_exactly s).0 t)), (behind_exactly).1 c);
        fall = λ z c n. edge_of z ∙ rw ((condition_exactly s).1 c, not_true behind (λ t. n ((behind_exactly).0 t)));
        level = λ z i.
            let q = request_held s.board.request e in
            let same = edge_of z ∙ ap (λ (t : Bool). edge t behind q) (equal i) ∙ edge_same behind q in
            subst (Held e s.board.request) (sym same) (held s.board.request e);
      }
    where
      equal : (Condition s ↔ Condition s') → before ≡ behind
      equal i = go before refl
        where
          go : (t : Bool) → before ≡ t → before ≡ behind
          go true h = h ∙ sym (behind_exactly.1 (i.0 ((condition_exactly s).0 h)))
          go false h = h ∙ sym (not_true behind (λ t. true≢false (sym ((condition_exactly s).1 (i.1 (behind_exactly.0 t))) ∙ h)))

pub request_edge : Request-edge
request_edge s e h k = rw (step_done s e h) (unfold s' in request_edges s e k)
