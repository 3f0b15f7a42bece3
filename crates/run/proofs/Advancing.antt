-- What `advance` told of a record: an event stood there and was played, or the file ended.
use mathlib.Core.Path.{◌≡◌, refl, sym, ap, ◌∙◌}
use mathlib.Core.Bool.{Bool, true, false, true≢false, false≢true}
use mathlib.Core.List.{List}
use Prim.Native.Nat.{ℕ}
use Rattle.rules.specs.Types.{Answer}
use Rattle.rules.specs.declared.Event.{Event}
use Rattle.rules.specs.declared.Board.{Board}
use Rattle.rules.specs.Record.{State, state_of}
use Rattle.rules.specs.Step.{step}
use Rattle.file_rules.specs.Item.{End}
use Rattle.run.specs.declared.Cursor.{Cursor}
use Rattle.run.specs.declared.Advanced.{Advanced}
use Rattle.run.specs.Ahead.{Ahead, Found, Over, Progress, Played, Ended, progress_of}
use Rattle.run.specs.Numbers.{progress_numbers}
use Rattle.run.specs.Promises.{Advances}
use Rattle.run.specs.Run.{found, on_ahead, advanced}

abbrev pub is_played : Progress → Bool
is_played (Played a c) = true
is_played (Ended x) = false

abbrev pub cursor_in : Cursor → Progress → Cursor
cursor_in d (Played a c) = c
cursor_in d (Ended x) = d

abbrev pub end_in : End → Progress → End
end_in d (Played a c) = d
end_in d (Ended x) = x

module _ (s : List ℕ) (c : Cursor) (st : State) where
  pub was_played : (a : Answer) (after : Cursor) → (advanced s c st).progress ≡ Played a after
      → (e : Event) × (found s c ≡ Found e after) × ((advanced s c st).state ≡ (step st e).state)
  unfolding advanced
  was_played a after = go (found s c) refl
    where
      go : (n : Ahead) → found s c ≡ n → (on_ahead st n).progress ≡ Played a after
          → (e : Event) × (found s c ≡ Found e after) × ((advanced s c st).state ≡ (step st e).state)
      go (Found e d) h p = (e, h ∙ ap (Found e) (ap (cursor_in d) p), ap (λ (n : Ahead). (on_ahead st n).state) h)
      go (Over x) h p = absurd (false≢true (ap is_played p))

  -- nothing changed
  pub was_ended : (x : End) → (advanced s c st).progress ≡ Ended x → (found s c ≡ Over x) × ((advanced s c st).state ≡ st)
  unfolding advanced
  was_ended x = go (found s c) refl
    where
      go : (n : Ahead) → found s c ≡ n → (on_ahead st n).progress ≡ Ended x → (found s c ≡ Over x) × ((advanced s c st).state ≡ st)
      go (Found e d) h p = absurd (true≢false (ap is_played p))
      go (Over y) h p = (h ∙ ap Over (ap (end_in y) p), ap (λ (n : Ahead). (on_ahead st n).state) h)

-- ---- And what it tells: the stage that comes of what stood ahead

pub advances : (s : List ℕ) (c : Cursor) (b : Board) (m : List ℕ) (r : Advanced) (m' : List ℕ) {n : Ahead}
    → found s c ≡ n
    → progress_of r.progress ≡ (on_ahead (state_of b m) n).progress
    → r.board ≡ (on_ahead (state_of b m) n).state.board
    → m' ≡ (on_ahead (state_of b m) n).state.memory
    → Advances s c b m r m'
unfolding advanced
advances s c b m r m' e p q o =
    let st = state_of b m in
    let progress = p ∙ sym (ap (λ (x : Ahead). (on_ahead st x).progress) e) in
    record {
      progress = progress;
      in_numbers = ap progress_numbers progress;
      board = q ∙ sym (ap (λ (x : Ahead). (on_ahead st x).state.board) e);
      memory = o ∙ sym (ap (λ (x : Ahead). (on_ahead st x).state.memory) e);
    }
