-- What `run` makes of a session: the board and the memory that its events leave, and how it ends.
use Prim.Native.Nat.{ℕ}
use mathlib.Core.Path.{◌≡◌, refl, ap, ◌∙◌}
use mathlib.Core.List.{List, []}
use Rattle.std.specs.Prelude.{Result}
use Rattle.rules.specs.declared.Board.{Board}
use Rattle.rules.specs.declared.Event.{Event}
use Rattle.rules.specs.Record.{State, state_of, start}
use Rattle.rules.specs.Step.{step}
use Rattle.rules.specs.Session.{after}
use Rattle.file_rules.specs.declared.FileError.{FileError}
use Rattle.file_rules.specs.Item.{End, end_of}
use Rattle.file_rules.specs.File.{Session, verdict}
use Rattle.run.specs.declared.Cursor.{Cursor}
use Rattle.run.specs.declared.Advanced.{Advanced}
use Rattle.run.specs.Ahead.{Ended}
use Rattle.run.specs.Run.{advanced}
use Rattle.run.specs.Promises.{Advances, Runs}
use Rattle.run.specs.Way.{Way, Passes}
use Rattle.run.proofs.Ways.{way_over}
use Rattle.run.proofs.Advancing.{was_ended}

pub record Finish : Type 0 where
  pub state : State
  pub end : End

pub record Leaves (o : Finish) (st : State) (x : Session) : Type 0 where
  pub state : o.state ≡ after st x.events
  pub end : o.end ≡ x.end

-- an event that is played
pub leaves_played : (st : State) (e : Event) → Passes Leaves st e (step st e).state
unfolding after
leaves_played st e o x l = record { state = l.state; end = l.end }

-- and the end of the file
pub leaves_ended : (st : State) (x : End) → Leaves (record { state = st; end = x }) st (record { events = []; end = x })
unfolding after
leaves_ended st x = record { state = refl; end = refl }

-- so a run that stands at the end of the file, with what the events before have left, is done
pub runs_out : (s m : List ℕ) (c : Cursor) (b : Board) (n : List ℕ) (a : Advanced) (m' : List ℕ) (r : Result (Unit {0}) FileError) (end : End)
    → Way Leaves s (start m) (state_of b n) c
    → Advances s c b n a m'
    → (advanced s c (state_of b n)).progress ≡ Ended end
    → end_of r ≡ end
    → Runs s m (record { end = r; board = a.board }) m'
runs_out s m c b n a m' r end w p e h =
    let st = state_of b n in
    let d = was_ended s c st end e in
    let o = way_over Finish State Leaves s (start m) st c end (record { state = st; end = end }) w d.0 (leaves_ended st end) in
    let q = d.1 ∙ o.state in
    let told = h ∙ o.end in
    record {
      end = told;
      in_numbers = ap verdict told;
      board = p.board ∙ ap (λ (x : State). x.board) q;
      memory = p.memory ∙ ap (λ (x : State). x.memory) q;
    }
