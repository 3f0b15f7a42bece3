-- What counts, event by event; and where the last accepted power-up of a session stands.
use Prim.Native.Nat.{ℕ}
use mathlib.Core.Path.{◌≡◌, refl, sym, ap, ◌∙◌, subst}
use mathlib.Core.Logic.{◌⊎◌, inl, inr}
use mathlib.Core.Bool.{Bool, true, false, not, ◌&&◌, true≢false, false≢true}
use mathlib.Core.List.{List, [], ◌∷◌, ◌++◌, reverse_aux}
use borrow.Author.Tests.{eqb-true, eq-eqb, ne_eqb}
use Rattle.laws.specs.Types.{Settings, Event, power_up, write, read, signal, tick}
use Rattle.rules.specs.Record.{State}
use Rattle.rules.specs.Step.{Outcome, step}
use Rattle.rules.specs.Session.{outcomes, after}
use Rattle.rules.proofs.Choice.{either, cond_true, and_both, not_true, not_both}
use Rattle.volt_rules.specs.Counting.{Counted, nothing_counted, freshly, also, is_power_up, starts_afresh, count_event, counted}
use Rattle.volt_rules.specs.Table.{power_refusal}
use Rattle.volt_rules.specs.Laws.{UpAccepted, NoneAccepted, levels_after, Counts-since, Counts-none}
use Rattle.volt_rules.proofs.Playing.{up_fresh}

-- ---- An event that starts nothing afresh

goes_on : (s : State) (e : Event) → ((x : Settings) → e ≡ power_up x → ¬ UpAccepted s x) → starts_afresh e (step s e) ≡ false
unfolding is_power_up
goes_on s (power_up x) n = ne_eqb _ 0 (n x refl)
goes_on s (write a v) n = refl
goes_on s (read a) n = refl
goes_on s (signal x) n = refl

none_first : (s : State) (e : Event) (es : List Event) → NoneAccepted s (e ∷ es) → starts_afresh e (step s e) ≡ false
unfolding after
none_first s e es n = goes_on s e (λ x h. n [] es x (ap (λ (d : Event). d ∷ es) h))

none_later : (s : State) (e : Event) (es : List Event) → NoneAccepted s (e ∷ es) → NoneAccepted (step s e).state es
unfolding after
none_later s e es n before later x h = n (e ∷ before) later x (ap (λ (ds : List Event). e ∷ ds) h)

abbrev end_levels : Outcome → List ℕ
end_levels o = o.state.board.core.outputs.levels

count_on : (e : Event) (o : Outcome) (w : Counted) → starts_afresh e o ≡ false → count_event e o w ≡ record { range = w.range; levels = also (end_levels o) w.levels }
unfolding count_event
count_on e o w h = rw h

count_fresh : (e : Event) (o : Outcome) (w : Counted) → starts_afresh e o ≡ true → count_event e o w ≡ freshly o.state.board
unfolding count_event
count_fresh e o w h = cond_true _ _ _ h

count_up : (s : State) (x : Settings) (w : Counted) → UpAccepted s x
    → count_event (power_up x) (step s (power_up x)) w ≡ record { range = x.range; levels = end_levels (step s (power_up x)) ∷ [] }
unfolding is_power_up
count_up s x w h =
    count_fresh (power_up x) (step s (power_up x)) w (eq-eqb _ 0 h)
    ∙ (λ i. record { range = (up_fresh s x h).0 i; levels = end_levels (step s (power_up x)) ∷ [] })

-- ---- The laws

none_counted : (s : State) (es : List Event) → NoneAccepted s es → counted nothing_counted s es ≡ nothing_counted
unfolding counted also
none_counted s [] n = refl
none_counted s (e ∷ es) n =
    ap (λ (w : Counted). counted w (step s e).state es) (count_on e (step s e) nothing_counted (none_first s e es n))
    ∙ none_counted (step s e).state es (none_later s e es n)

pub counts_none : Counts-none
counts_none = none_counted

later_counted : (r : ℕ) (x : List ℕ) (xs : List (List ℕ)) (s : State) (es : List Event) → NoneAccepted s es
    → counted (record { range = r; levels = x ∷ xs }) s es ≡ record { range = r; levels = reverse_aux (levels_after s es) (x ∷ xs) }
unfolding counted also outcomes
later_counted r x xs s [] n = refl
later_counted r x xs s (e ∷ es) n =
    ap (λ (w : Counted). counted w (step s e).state es) (count_on e (step s e) _ (none_first s e es n))
    ∙ later_counted r (step s e).state.board.core.outputs.levels (x ∷ xs) (step s e).state es (none_later s e es n)

pub counts_since : Counts-since
unfolding counted after outcomes
counts_since w s [] later x a n =
    ap (λ (v : Counted). counted v (step s (power_up x)).state later) (count_up s x w a)
    ∙ later_counted x.range _ [] (step s (power_up x)).state later n
counts_since w s (e ∷ before) later x a n = counts_since (count_event e (step s e) w) (step s e).state before later x a n

-- ---- Some power-up is accepted, or none is

pub record Powered (s : State) (es : List Event) : Type 0 where
  pub before : List Event
  pub later : List Event
  pub settings : Settings
  pub parted : es ≡ before ++ (power_up settings ∷ later)
  pub accepted : UpAccepted (after s before) settings
  pub no_other : NoneAccepted (step (after s before) (power_up settings)).state later

abbrev no_events : List Event → Bool
no_events [] = true
no_events (e ∷ es) = false

abbrev first_in : List Event → Event
first_in [] = signal tick
first_in (e ∷ es) = e

abbrev rest_in : List Event → List Event
rest_in [] = []
rest_in (e ∷ es) = es

pub is_up : (s : State) (e : Event) → starts_afresh e (step s e) ≡ true → (x : Settings) × (e ≡ power_up x) × UpAccepted s x
unfolding is_power_up
is_up s (power_up x) h = (x, refl, eqb-true _ 0 h)
is_up s (write a v) h = absurd (false≢true h)
is_up s (read a) h = absurd (false≢true h)
is_up s (signal x) h = absurd (false≢true h)

not_up : (s : State) (e : Event) (x : Settings) → starts_afresh e (step s e) ≡ false → e ≡ power_up x → ¬ UpAccepted s x
unfolding is_power_up
not_up s e x h q a = true≢false (sym (eq-eqb _ 0 a) ∙ subst (λ (d : Event). starts_afresh d (step s d) ≡ false) q h)

none_more : (s : State) (e : Event) (es : List Event) → starts_afresh e (step s e) ≡ false → NoneAccepted (step s e).state es
    → NoneAccepted s (e ∷ es)
unfolding after
none_more s e es h n [] later x q = not_up s e x h (ap first_in q)
none_more s e es h n (d ∷ before) later x q =
    subst (λ (c : Event). ¬ UpAccepted (after (step s c).state before) x) (ap first_in q) (n before later x (ap rest_in q))

-- no list with an event in it is empty
parted_some : (before later : List Event) (e : Event) → ◌≡◌ {A = List Event} [] (before ++ (e ∷ later)) → ⊥
parted_some [] later e h = true≢false (ap no_events h)
parted_some (b ∷ before) later e h = true≢false (ap no_events h)

-- none is, by computation
unfoldable pub never_afresh : State → List Event → Bool
never_afresh s [] = true
never_afresh s (e ∷ es) = not (starts_afresh e (step s e)) && never_afresh (step s e).state es

pub never_none : (s : State) (es : List Event) → never_afresh s es ≡ true → NoneAccepted s es
unfolding never_afresh
never_none s [] h = λ before later x e. absurd (parted_some before later (power_up x) e)
never_none s (e ∷ es) h =
    let t = and_both (not (starts_afresh e (step s e))) (never_afresh (step s e).state es) h in
    none_more s e es (not_true _ (not_both _ t.0)) (never_none (step s e).state es t.1)

pub powered_or_not : (s : State) (es : List Event) → NoneAccepted s es ⊎ Powered s es
unfolding after never_afresh
powered_or_not s [] = inl (never_none s [] refl)
powered_or_not s (e ∷ es) = go (starts_afresh e (step s e)) refl (powered_or_not (step s e).state es)
  where
    go : (t : Bool) → starts_afresh e (step s e) ≡ t → NoneAccepted (step s e).state es ⊎ Powered (step s e).state es
        → NoneAccepted s (e ∷ es) ⊎ Powered s (e ∷ es)
    go true h (inl n) =
        let u = is_up s e h in
        inr (record {
          before = [];
          later = es;
          settings = u.0;
          parted = ap (λ (d : Event). d ∷ es) u.1;
          accepted = u.2;
          no_other = subst (λ (d : Event). NoneAccepted (step s d).state es) u.1 n;
        })
    go false h (inl n) = inl (none_more s e es h n)
    go t h (inr p) =
        inr (record {
          before = e ∷ p.before;
          later = p.later;
          settings = p.settings;
          parted = ap (λ (ds : List Event). e ∷ ds) p.parted;
          accepted = p.accepted;
          no_other = p.no_other;
        })

-- ---- Once something counts, something does

abbrev pub Some : List (List ℕ) → Type 0
Some xs = (y : List ℕ) × (ys : List (List ℕ)) × (xs ≡ y ∷ ys)

pub also_counted : (x : List ℕ) (xs : List (List ℕ)) → power_refusal (also x xs) ≡ 0 → power_refusal xs ≡ 0
unfolding also
also_counted x [] h = h
also_counted x (y ∷ ys) h = refl

also_some : (x : List ℕ) (xs : List (List ℕ)) → Some xs → Some (also x xs)
unfolding also
also_some x [] h = h
also_some x (y ∷ ys) h = (x, y ∷ ys, refl)

count_some : (e : Event) (o : Outcome) (w : Counted) → Some w.levels → Some (count_event e o w).levels
unfolding count_event
count_some e o w h = either (λ (v : Counted). Some v.levels) (starts_afresh e o) (_, _, refl) (also_some (end_levels o) w.levels h)

counted_on : (w : Counted) (s : State) (es : List Event) → Some w.levels → Some (counted w s es).levels
unfolding counted
counted_on w s [] h = h
counted_on w s (e ∷ es) h = counted_on (count_event e (step s e) w) (step s e).state es (count_some e (step s e) w h)

pub counted_some : (w : Counted) (s : State) (before later : List Event) (x : Settings) → UpAccepted (after s before) x
    → Some (counted w s (before ++ (power_up x ∷ later))).levels
unfolding counted after
counted_some w s [] later x a =
    counted_on _ (step s (power_up x)).state later (_, _, ap (λ (v : Counted). v.levels) (count_up s x w a))
counted_some w s (e ∷ before) later x a = counted_some (count_event e (step s e) w) (step s e).state before later x a

-- ---- Only one is followed by none

abbrev settings_in : Event → Settings
settings_in (power_up x) = x
settings_in (write a v) = record { fitted = 0; range = 0; filter = 0; kit = 0; firmware = 0 }
settings_in (read a) = record { fitted = 0; range = 0; filter = 0; kit = 0; firmware = 0 }
settings_in (signal x) = record { fitted = 0; range = 0; filter = 0; kit = 0; firmware = 0 }

pub one_last : (s : State) (b b' l l' : List Event) (x x' : Settings) → b ++ (power_up x ∷ l) ≡ b' ++ (power_up x' ∷ l')
    → UpAccepted (after s b) x
    → UpAccepted (after s b') x'
    → NoneAccepted (step (after s b) (power_up x)).state l
    → NoneAccepted (step (after s b') (power_up x')).state l'
    → (b ≡ b') × (x ≡ x') × (l ≡ l')
unfolding after
one_last s [] [] l l' x x' e a a' n n' = (refl, ap settings_in (ap first_in e), ap rest_in e)
one_last s [] (d ∷ b') l l' x x' e a a' n n' =
    absurd (n b' l' x' (ap rest_in e) (subst (λ (c : Event). UpAccepted (after (step s c).state b') x') (sym (ap first_in e)) a'))
one_last s (c ∷ b) [] l l' x x' e a a' n n' =
    absurd (n' b l x (sym (ap rest_in e)) (subst (λ (d : Event). UpAccepted (after (step s d).state b) x) (ap first_in e) a))
one_last s (c ∷ b) (d ∷ b') l l' x x' e a a' n n' =
    let same = sym (ap first_in e) in
    let r = one_last (step s c).state b b' l l' x x' (ap rest_in e) a
    (subst (λ (z : Event). UpAccepted (after (step s z).state b') x') same a') n
    (subst (λ (z : Event). NoneAccepted (step (after (step s z).state b') (power_up x')).state l') same n') in
    ((λ i. ap first_in e i ∷ r.0 i), r.1, r.2)
