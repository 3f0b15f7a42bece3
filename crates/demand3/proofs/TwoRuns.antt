-- One event on two boards that differ in their room alone (specs/TwoBoards.antt).
use Prim.Native.Nat.{ℕ, zero, suc, ◌≤◌}
use mathlib.Core.Path.{◌≡◌, refl, sym, ap, ap₂, ◌∙◌, subst}
use mathlib.Core.Logic.{◌≢◌}
use mathlib.Core.Bool.{Bool, true, false, cond}
use mathlib.Core.List.{List}
use native.Mathlib.Nat.{le_refl}
use native.Mathlib.Omega.{arith}
use borrow.Author.Tests.{le-ltb, eqb-true}
use lib.Dec.{eqb}
use lib.ListN.{length, get_or}
use Rattle.rules.specs.declared.Settings.{Settings}
use Rattle.rules.specs.declared.Size.{Size}
use Rattle.rules.specs.declared.Core.{Core}
use Rattle.rules.specs.declared.Board.{Board}
use Rattle.rules.specs.declared.Event.{Event}
use Rattle.rules.specs.declared.Event.TheVariants.{PowerUp as power_up, Write as write, Read as read, Signal as signal}
use Rattle.rules.specs.Record.{State, values, stored, sound_core, sound}
use Rattle.rules.specs.Clocks.{Play, fate_number}
use Rattle.rules.specs.declared.Fate.{Fate}
use Rattle.rules.specs.declared.Fate.TheVariants.{LostToFull as lost_to_full}
use Rattle.rules.specs.Flags.{is_full}
use Rattle.rules.specs.Play.{play}
use Rattle.rules.specs.Place.{place}
use Rattle.rules.specs.Size.{initialises, size_after}
use Rattle.rules.specs.Interrupt.{conditions, condition, request_held, edge, request_after}
use Rattle.rules.specs.Refusals.{refusal}
use Rattle.rules.specs.Step.{refused, played, board_before, done, step}
use Rattle.rules.specs.Laws.Refusals.{Ordinary}
use Rattle.rules.specs.Own.{own_number}
use Rattle.demand3.specs.Demand3.{NeverLower, same, deeper, larger, PowerUpAlike}
use Rattle.demand3.specs.TwoBoards.{Related, Together, Event-together, Power-up-together}
use Rattle.rules.proofs.Own.{refusal_own}
use Rattle.rules.proofs.Sizes.{full_later}
use Rattle.laws.specs.Lists.{on_list}
use Rattle.rules.proofs.Steps.{step_done, step_refused, refusal_answered, stored_length}
use Rattle.laws.specs.Kept.{Fit, Kept}
use Rattle.laws.proofs.Kept.{fit_sound, stands_fit, event_kept}
use Rattle.laws.proofs.Lasting.{up_stands}
use Rattle.demand3.proofs.FullOnly.{play_same}
use Rattle.demand3.proofs.Lower.{OneToRules, one_to_rules}

-- ---- An event's own refusal, once 3 and 2 are passed, is the core's alone

refusal_fit : (s : State) (e : Event) → Ordinary e → sound_core s.board.core ≡ true → Fit s → refusal s e ≡ own_number s.board.core e
unfolding sound
refusal_fit s e o h f = refusal_own s e o ∙ rw (h, fit_sound s f, le-ltb _ _ f.good.enough)

refusal_unsound : (s : State) (e : Event) → Ordinary e → sound_core s.board.core ≡ false → refusal s e ≡ 3
unfolding sound
refusal_unsound s e o h = refusal_own s e o ∙ rw h

own_lower : {e e' : Event} → NeverLower e e' → (c : Core) → own_number c e ≡ own_number c e'
unfolding own_number
own_lower (same e) c = refl
own_lower (deeper x d h) c = refl
own_lower (larger v v' h l) c = refl

-- ---- Related boards

counts : (s s' : State) → stored s ≡ stored s' → s.board.ring.count ≡ s'.board.ring.count
counts s s' h = sym (stored_length s) ∙ ap length h ∙ stored_length s'

-- where the first loses nothing to a full buffer, both play the same
played_same : (s s' : State) (e e' : Event) → Related s s' → OneToRules e e' → (played s e).fate ≢ lost_to_full → played s e ≡ played s' e'
played_same s s' e e' r l k =
    let n = s.board.ring.count in
    let full' = is_full s'.board.size s'.board.ring.count in
    play_same s.board.core (stored s) (is_full s.board.size n) full' e
    (λ h. subst (λ (x : ℕ). is_full s'.board.size x ≡ false) (counts s s' r.lists) (full_later s.board.size s'.board.size n r.size h)) k
    ∙ ap₂ (λ (c : Core) (buf : List ℕ). play c buf full' e) r.core r.lists
    ∙ l.plays s'.board.core (stored s') full'

-- ---- The interrupt request, where no quarter is selected

-- Boards of one core and one count, whatever their sizes: only at 3 and 4 does the size tell.
condition_sizes : (b : Board) (z : Size) → b.core.control.selection ≢ 3 → b.core.control.selection ≢ 4
    → condition b ≡ condition (record { core = b.core; size = z; request = b.request; ring = b.ring })
unfolding condition conditions
condition_sizes b z low high = go b.core.control.selection low high
  where
    b' : Board
    b' = record { core = b.core; size = z; request = b.request; ring = b.ring }

    go : (n : ℕ) → n ≢ 3 → n ≢ 4 → get_or (conditions b) n false ≡ get_or (conditions b') n false
    go zero l h = refl
    go (suc zero) l h = refl
    go (suc (suc zero)) l h = refl
    go (suc (suc (suc zero))) l h = absurd (l refl)
    go (suc (suc (suc (suc zero)))) l h = absurd (h refl)
    go (suc (suc (suc (suc (suc n))))) l h = refl

-- so the condition is a function of core and count
condition_same : (b b' : Board) → b.core ≡ b'.core → b.ring.count ≡ b'.ring.count
    → b.core.control.selection ≢ 3 → b.core.control.selection ≢ 4 → condition b ≡ condition b'
unfolding condition conditions
condition_same b b' c n low high =
    condition_sizes b b'.size low high
    ∙ (λ i. condition (record { core = c i; size = b'.size; request = b'.request; ring = record { first = b'.ring.first; count = n i } }))

request_same : (e e' : Event) (b b' a a' : Board) → OneToRules e e'
    → b.core ≡ b'.core → b.ring.count ≡ b'.ring.count
    → a.core ≡ a'.core → a.ring.count ≡ a'.ring.count → a.request ≡ a'.request
    → b.core.control.selection ≢ 3 → b.core.control.selection ≢ 4 → request_after e b a ≡ request_after e' b' a'
unfolding request_after
request_same e e' b b' a a' l bc bn ac an q low high = go (eqb (selection b) (selection a)) refl
  where
    selection : Board → ℕ
    selection x = x.core.control.selection

    -- the selections of both runs
    selections : eqb (selection b) (selection a) ≡ eqb (selection b') (selection a')
    selections = λ i. eqb (bc i).control.selection (ac i).control.selection

    go : (t : Bool) → eqb (selection b) (selection a) ≡ t
        → cond (initialises e) true (cond (eqb (selection b) (selection a)) (edge (condition b) (condition a) a.request) a.request)
        ≡ cond (initialises e') true (cond (eqb (selection b') (selection a')) (edge (condition b') (condition a') a'.request) a'.request)
    go false h = rw (h, sym selections ∙ h, l.initial, q)
    go true h =
        let z : selection b ≡ selection a = eqb-true _ _ h in
        let before = condition_same b b' bc bn low high in
        let behind = condition_same a a' ac an (λ x. low (z ∙ x)) (λ x. high (z ∙ x)) in
        rw (h, sym selections ∙ h, l.initial, before, behind, q)

-- ---- What one event does to both

refused_together : (n n' : ℕ) (s s' : State) → n ≡ n' → Related s s' → Together s s' (refused n s) (refused n' s')
unfolding refused
refused_together n n' s s' e r =
    record { refusal = e; moved = refl; fate = refl; related = r; request = λ q h. h }

-- an event that both refuse by one number
both_refused : (s s' : State) (e e' : Event) → Related s s' → refusal s e ≡ refusal s' e' → eqb (refusal s e) 0 ≡ false
    → Together s s' (step s e) (step s' e')
both_refused s s' e e' r q z =
    rw (step_refused s e z, step_refused s' e' (subst (λ (n : ℕ). eqb n 0 ≡ false) q z)) (refused_together _ _ s s' q r)

fate_two : (f : Fate) → fate_number f ≢ 2 → f ≢ lost_to_full
fate_two f h e = h (ap fate_number e)

done_together : (s s' : State) (e e' : Event) → Ordinary e → Ordinary e' → OneToRules e e'
    → Related s s' → Fit s → Fit s' → (done s e).answer.fate ≢ 2 → Together s s' (done s e) (done s' e')
unfolding done board_before
done_together s s' e e' o o' l r f f' k =
    let p : played s e ≡ played s' e' = played_same s s' e e' r l (fate_two (played s e).fate k) in
    let t : Kept s e = event_kept s e o f in
    let t' : Kept s' e' = event_kept s' e' o' f' in
    let ls = t.lists ∙ ap₂ (λ (q : Play) (buf : List ℕ). on_list q.op buf) p r.lists ∙ sym t'.lists in
    record {
      refusal = refl;
      moved = ap (λ (q : Play). q.moved) p;
      fate = ap (λ (q : Play). fate_number q.fate) p;
      related = record {
        core = ap (λ (q : Play). q.core) p;
        size = l.sizes s.board.size s'.board.size r.size;
        lists = ls;
        fit = λ _. t.fit;
        fit' = λ _. t'.fit;
      };
      request = λ q h.
          request_same e e' s.board s'.board (board_before s e) (board_before s' e') l r.core (counts s s' r.lists)
          (ap (λ (x : Play). x.core) p) (counts (done s e).state (done s' e').state ls)
          (l.held s.board.request ∙ ap (λ (x : Bool). request_held x e') h)
          q.low q.high;
    }

-- an event that is no power-up, refused or not
ordinary_together : (s s' : State) {e e' : Event} → NeverLower e e' → Ordinary e → Ordinary e'
    → Related s s' → (step s e).answer.fate ≢ 2 → Together s s' (step s e) (step s' e')
ordinary_together s s' {e} {e'} w o o' r k = go (sound_core s.board.core) refl
  where
    l : OneToRules e e'
    l = one_to_rules w

    -- the two numbers are one, and 0 only where both fit
    same_number : refusal s e ≡ refusal s' e' → (refusal s e ≡ 0 → Fit s × Fit s')
        → (z : Bool) → eqb (refusal s e) 0 ≡ z → Together s s' (step s e) (step s' e')
    same_number q f true z =
        let h : refusal s e ≡ 0 = eqb-true (refusal s e) 0 z in
        let h' : refusal s' e' ≡ 0 = sym q ∙ h in
        let g = f h in
        rw (step_done s e h, step_done s' e' h') (done_together s s' e e' o o' l r g.0 g.1 (rw (step_done s e h) at k))
    same_number q f false z = both_refused s s' e e' r q z

    go : (t : Bool) → sound_core s.board.core ≡ t → Together s s' (step s e) (step s' e')
    go true t =
        let t' : sound_core s'.board.core ≡ true = subst (λ (c : Core). sound_core c ≡ true) r.core t in
        let f = r.fit t in
        let f' = r.fit' t' in
        let owns = ap (λ (c : Core). own_number c e) r.core ∙ own_lower w s'.board.core in
        same_number (refusal_fit s e o t f ∙ owns ∙ sym (refusal_fit s' e' o' t' f')) (λ h. (f, f')) _ refl
    go false t =
        let t' : sound_core s'.board.core ≡ false = subst (λ (c : Core). sound_core c ≡ false) r.core t in
        let h : refusal s e ≡ 3 = refusal_unsound s e o t in
        same_number (h ∙ sym (refusal_unsound s' e' o' t')) (λ z. absurd (omega arith)) _ refl

-- ---- A power-up

up_together : (s s' : State) (x x' : Settings) → OneToRules (power_up x) (power_up x')
    → (step s (power_up x)).answer.refusal ≡ 0 → (step s' (power_up x')).answer.refusal ≡ 0
    → x.fitted ≤ x'.fitted → Together s s' (step s (power_up x)) (step s' (power_up x'))
unfolding done board_before play place size_after stored values request_after initialises
up_together s s' x x' l a a' d =
    let h = sym (refusal_answered s (power_up x)) ∙ a in
    let h' = sym (refusal_answered s' (power_up x')) ∙ a' in
    rw (step_done s (power_up x) h, step_done s' (power_up x') h') (record {
      refusal = refl;
      moved = refl;
      fate = refl;
      related = record {
        core = ap (λ (q : Play). q.core) (l.plays s.board.core (stored s) true);
        size = record { fitted = d; code = le_refl 15 };
        lists = refl;
        fit = λ _. stands_fit _ (up_stands s x h);
        fit' = λ _. stands_fit _ (up_stands s' x' h');
      };
      request = λ q z. refl;
    })

-- 01: "Initialise just sets it."
pub up_request : (s : State) (x : Settings) → (step s (power_up x)).answer.refusal ≡ 0 → (step s (power_up x)).state.board.request ≡ true
unfolding done board_before request_after initialises
up_request s x a = rw (step_done s (power_up x) (sym (refusal_answered s (power_up x)) ∙ a))

pub power_up_together : Power-up-together
power_up_together s s' x x' (same _) a a' = up_together s s' x x (one_to_rules (same (power_up x))) a a' (le_refl x.fitted)
power_up_together s s' _ _ (deeper x d h) a a' = up_together s s' x _ (one_to_rules (deeper x d h)) a a' h

-- and so do two that are answered alike, where the states before them were related: a refused one changes neither
up_alike : (s s' : State) {x x' : Settings} → NeverLower (power_up x) (power_up x') → Related s s'
    → (step s (power_up x)).answer.refusal ≡ (step s' (power_up x')).answer.refusal
    → Together s s' (step s (power_up x)) (step s' (power_up x'))
up_alike s s' {x} {x'} w r q = go (eqb (refusal s (power_up x)) 0) refl
  where
    go : (z : Bool) → eqb (refusal s (power_up x)) 0 ≡ z → Together s s' (step s (power_up x)) (step s' (power_up x'))
    go true z =
        let h = refusal_answered s (power_up x) ∙ eqb-true (refusal s (power_up x)) 0 z in
        power_up_together s s' x x' w h (sym q ∙ h)
    go false z =
        both_refused s s' (power_up x) (power_up x') r (sym (refusal_answered s (power_up x)) ∙ q ∙ refusal_answered s' (power_up x')) z

-- ---- Any event

pub event_together : Event-together
event_together s s' _ _ (deeper x d h) r a n = up_alike s s' (deeper x d h) r a
event_together s s' _ _ (larger v v' h l) r a n = ordinary_together s s' (larger v v' h l) tt tt r n
event_together s s' _ _ (same e) r a n = each e a n
  where
    each : (e : Event) → PowerUpAlike e (step s e) (step s' e) → (step s e).answer.fate ≢ 2 → Together s s' (step s e) (step s' e)
    each (power_up x) a n = up_alike s s' (same (power_up x)) r a
    each (write o v) a n = ordinary_together s s' (same (write o v)) tt tt r n
    each (read o) a n = ordinary_together s s' (same (read o)) tt tt r n
    each (signal x) a n = ordinary_together s s' (same (signal x)) tt tt r n
