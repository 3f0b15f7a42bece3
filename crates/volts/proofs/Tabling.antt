-- What `observe_all` makes of a session: the memory that its events leave, what counts, and how it ends. The loop is on its way
-- (specs/Way.antt of `run`) with the state and with what counted so far, whose table it holds.
use Prim.Native.Nat.{ℕ}
use mathlib.Core.Path.{◌≡◌, refl, sym, ap, subst, ◌∙◌}
use mathlib.Core.Bool.{Bool, false, true≢false}
use mathlib.Core.List.{List, [], ◌∷◌}
use native.Mathlib.Omega.{arith}
use borrow.Author.Tests.{eq-eqb}
use lib.ListN.{length}
use Rattle.std.specs.Prelude.{Option, Some, None, Err, ok_or, cond}
use Rattle.rules.specs.declared.Event.{Event}
use Rattle.rules.specs.declared.Board.{Board}
use Rattle.rules.specs.Record.{State, state_of, unpowered}
use Rattle.rules.specs.Step.{step}
use Rattle.rules.specs.Session.{after}
use Rattle.file_rules.specs.declared.Fault.{Fault}
use Rattle.file_rules.specs.Item.{End, File, Refused}
use Rattle.file_rules.specs.File.{Session, session}
use Rattle.run.specs.declared.Cursor.{Cursor}
use Rattle.run.specs.Ahead.{Found, Over}
use Rattle.run.specs.Run.{found}
use Rattle.run.specs.Way.{Way, Passes}
use Rattle.run.proofs.Ways.{way_start, way_on, way_over}
use Rattle.volt_rules.specs.declared.Extremes.{Extremes}
use Rattle.volt_rules.specs.Counting.{Counted, nothing_counted, count_event, counted}
use Rattle.volt_rules.specs.Table.{channels_of, counted_in, power_refusal, table_refusal, table_channels}
use Rattle.volt_rules.proofs.Tables.{fault_some, file_refused, file_ended, table_refused, accepted_channels}
use Rattle.volts.specs.declared.refusal.VoltRefusal.TheVariants.{File as bad_file, NoPowerUp}
use Rattle.volts.specs.declared.running.Observed.{Observed}
use Rattle.volts.specs.Numbered.{Table, volt_refusal_number, table_of}
use Rattle.volts.specs.Watching.{held, seen_from, seen_of}
use Rattle.volts.specs.Observing.{Observes}
use Rattle.volts.specs.Promises.{Tabled}
use Rattle.volts.proofs.OneRange.{Suits, start_suits, range_kept, suits_on}

-- ---- The answer

abbrev Answers : (s m : List ℕ) → Table → Type 0
Answers s m x = (x.refusal ≡ table_refusal s m) × (x.channels ≡ table_channels s m)

-- 02: "file refusals 10 to 13 come first"
file_answered : (s m : List ℕ) (why : Fault) (p : ℕ) → (session s).end ≡ Refused why p → Answers s m (table_of (Err (bad_file why)))
unfolding volt_refusal_number
file_answered s m why p h =
    let n = file_refused s m why p h in
    (sym n, sym (table_refused s m (λ z. true≢false (sym (eq-eqb _ _ (sym n ∙ z)) ∙ fault_some why))))

answered : (s m : List ℕ) → (session s).end ≡ File → Answers s m (table_of (ok_or (seen_of (counted_in s m)) NoPowerUp))
unfolding volt_refusal_number
answered s m h = go (counted_in s m).levels refl
  where
    go : (xs : List (List ℕ)) → (counted_in s m).levels ≡ xs → Answers s m (table_of (ok_or (seen_from (counted_in s m).range xs) NoPowerUp))
    go [] e =
        let n = file_ended s m h ∙ ap power_refusal e in
        (sym n, sym (table_refused s m (λ z. absurd (omega (arith, n, z)))))
    go (x ∷ xs) e =
        let n = file_ended s m h ∙ ap power_refusal e in
        (sym n, (λ i. channels_of (record { range = (counted_in s m).range; levels = sym e i })) ∙ sym (accepted_channels s m n))

-- ---- What comes of a session

pub record Tally : Type 0 where
  pub state : State
  pub seen : Counted

pub record Total : Type 0 where
  pub state : State
  pub seen : Counted
  pub end : End

pub record Counts (o : Total) (a : Tally) (x : Session) : Type 0 where
  pub state : o.state ≡ after a.state x.events
  pub seen : o.seen ≡ counted a.seen a.state x.events
  pub end : o.end ≡ x.end

abbrev tally_after : Tally → Event → Tally
tally_after a e = record { state = (step a.state e).state; seen = count_event e (step a.state e) a.seen }

-- an event that is played
tallied : (a : Tally) (e : Event) → Passes Counts a e (tally_after a e)
unfolding after counted
tallied a e o x g = record { state = g.state; seen = g.seen; end = g.end }

-- and the end of the file
totalled : (a : Tally) (x : End) → Counts (record { state = a.state; seen = a.seen; end = x }) a (record { events = []; end = x })
unfolding after counted
totalled a x = record { state = refl; seen = refl; end = refl }

-- ---- The loop

abbrev pub tally_of : Board → List ℕ → Counted → Tally
tally_of b m w = record { state = state_of b m; seen = w }

abbrev pub OnWay : (s m : List ℕ) → Tally → Cursor → Type 0
OnWay s m a c = Way Counts s (tally_of unpowered m nothing_counted) a c

-- it stands at the cursor c of the file s with the board and the table o, and its memory; m is the memory at the start
pub record Running (s m memory : List ℕ) (o : Observed) (c : Cursor) : Type 0 where
  pub long : length memory ≡ length m
  pub seen : Counted
  pub channels : held o ≡ seen_of seen
  pub suits : Suits seen o.board
  pub way : OnWay s m (tally_of o.board memory seen) c

pub running_start : (s m : List ℕ) (o : Observed) → o.board ≡ unpowered → o.counts ≡ false → Running s m m o (record { place = 0 })
running_start s m o e n =
    record {
      long = refl;
      seen = nothing_counted;
      channels = ap (λ (t : Bool). cond t (Some o.channels) None) n;
      suits = subst (Suits nothing_counted) (sym e) (start_suits m);
      way = subst (λ (x : Board). OnWay s m (tally_of x m nothing_counted) (record { place = 0 })) (sym e) (way_start Total Tally Counts s (tally_of unpowered m nothing_counted));
    }

module _ {s m memory : List ℕ} {o : Observed} {c : Cursor} (r : Running s m memory o c) where
  here : Tally
  here = tally_of o.board memory r.seen

  pub running_on : (e : Event) (after : Cursor) (o' : Observed) (memory' : List ℕ) → found s c ≡ Found e after → Observes o memory e o' memory'
      → length memory' ≡ length memory
      → Running s m memory' o' after
  unfolding here
  running_on e after o' memory' f p l =
      let on = way_on Total Tally Counts s (tally_of unpowered m nothing_counted) here (tally_after here e) c after e r.way f (tallied here e) in
      let w = (tally_after here e).seen in
      record {
        long = l ∙ r.long;
        seen = w;
        channels = p.channels r.seen r.channels (range_kept (state_of o.board memory) e r.seen r.suits);
        suits = subst (Suits w) (sym p.board) (suits_on (state_of o.board memory) e r.seen r.suits);
        way = subst (λ (x : Tally). OnWay s m x after) (λ i. tally_of (sym p.board i) (sym p.memory i) w) on;
      }

  total : (end : End) → found s c ≡ Over end → Counts (record { state = here.state; seen = here.seen; end = end }) (tally_of unpowered m nothing_counted) (session s)
  unfolding here
  total end f = way_over Total Tally Counts s (tally_of unpowered m nothing_counted) here c end (record { state = here.state; seen = here.seen; end = end }) r.way f (totalled here end)

  pub running_refused : (why : Fault) (p : ℕ) → found s c ≡ Over (Refused why p) → Tabled s m (table_of (Err (bad_file why))) memory
  unfolding here
  running_refused why p f =
      let t = total (Refused why p) f in
      let a = file_answered s m why p (sym t.end) in
      record { refusal = a.0; channels = a.1; memory = ap (λ (y : State). y.memory) t.state }

  -- t says whether anything counted
  pub running_over : (t : Bool) → o.counts ≡ t → found s c ≡ Over File → Tabled s m (table_of (ok_or (cond t (Some o.channels) None) NoPowerUp)) memory
  unfolding here counted_in
  running_over t h f =
      let x = total File f in
      let a = answered s m (sym x.end) in
      let known = ap (λ (u : Bool). cond u (Some o.channels) None) h in
      let e = sym known ∙ r.channels ∙ ap seen_of x.seen in
      subst (λ (y : Option (List Extremes)). Tabled s m (table_of (ok_or y NoPowerUp)) memory) (sym e)
      (record { refusal = a.0; channels = a.1; memory = ap (λ (y : State). y.memory) x.state })
