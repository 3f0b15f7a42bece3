-- The table once more, in other words than the definitions. Proofs are in proofs/.
--   Volts-exact     times 65,536 the volts are the level less 32,768, times 5, 10 or 20; nothing is rounded
--   Counts-since    what counts after an accepted power-up that no other follows, whatever came before it, and in which range
--   Counts-none     nothing counts where no power-up is accepted
--   Table-exactly   a session gets each refusal number, or none, exactly when 02 says so
--   Table-refused   a refused session has sixty positive zeros
--   Table-bounds    lowest and highest are reached, nothing that counted lies outside, the last is the last
--   Table-exact     each number of the table is exact, of a level of its channel that counted
--   Zero-positive   a number of the table that is zero is positive zero
use Rattle.std.specs.Prelude.{ℕ, ◌-◌, ◌*◌, ◌≤◌, ◌<◌, ◌≡◌, ◌≢◌, ◌↔◌, true, false, List, [], ◌∷◌, ◌++◌, map, reverse, get_or, replicate, Float}
use Rattle.std.specs.Float.Ieee.{le, eq}
use Rattle.std.specs.Float.Ieee.Exact.{HasValue}
use Rattle.rules.specs.declared.Settings.{Settings}
use Rattle.rules.specs.declared.Event.{Event}
use Rattle.rules.specs.declared.Event.TheVariants.{PowerUp as power_up}
use Rattle.rules.specs.Record.{State, start}
use Rattle.rules.specs.Step.{Outcome, step}
use Rattle.rules.specs.Session.{outcomes, after}
use Rattle.file_rules.specs.declared.Fault.{Fault}
use Rattle.file_rules.specs.Item.{File, Refused}
use Rattle.file_rules.specs.File.{session, fault_number}
use Rattle.volt_rules.specs.declared.Extremes.{Extremes}
use Rattle.volt_rules.specs.Volts.{volts_of, zero_volts}
use Rattle.volt_rules.specs.Counting.{Counted, nothing_counted, counted}
use Rattle.volt_rules.specs.Table.{volts_at, counted_in, table_refusal, table_channels}

-- ---- Volts

-- x · 65,536 is (level − 32,768) · k. `HasValue x s n d` is the kit's: x is a finite number, n / d in size, negative where s is true.
pub record Exact (k level : ℕ) (x : Float) : Type 0 where
  pub above : 32768 ≤ level → HasValue x false ((level - 32768) * k) 65536
  pub below : level < 32768 → HasValue x true ((32768 - level) * k) 65536

-- 02: "The volts are exact: times 65,536 each is the level less 32,768, times 5, 10 or 20 for range 0, 1, 2."
abbrev pub Volts-exact : Type 0
Volts-exact = (level : ℕ) → level < 65536 → Exact 5 level (volts_of 0 level) × Exact 10 level (volts_of 1 level) × Exact 20 level (volts_of 2 level)

-- ---- What counts

abbrev pub UpAccepted : State → Settings → Type 0
UpAccepted s x = (step s (power_up x)).answer.refusal ≡ 0

-- of the events es, from the state s on, no power-up is accepted
abbrev pub NoneAccepted : State → List Event → Type 0
NoneAccepted s es = (before later : List Event) (x : Settings) → es ≡ before ++ (power_up x ∷ later) → ¬ UpAccepted (after s before) x

-- the levels right after each event
abbrev pub levels_after : State → List Event → List (List ℕ)
levels_after s es = map (λ (o : Outcome). o.state.board.core.outputs.levels) (outcomes s es)

-- 02: "Levels right after an accepted power-up and after each later event count; another accepted power-up starts afresh."
abbrev pub Counts-since : Type 0
Counts-since =
    (w : Counted) (s : State) (before later : List Event) (x : Settings)
    → UpAccepted (after s before) x
    → NoneAccepted (step (after s before) (power_up x)).state later
    → counted w s (before ++ (power_up x ∷ later)) ≡ record { range = x.range; levels = reverse (levels_after (after s before) (power_up x ∷ later)) }

abbrev pub Counts-none : Type 0
Counts-none = (s : State) (es : List Event) → NoneAccepted s es → counted nothing_counted s es ≡ nothing_counted

-- ---- Refusals

pub data TableGiven (s m : List ℕ) : ℕ → Type 0 where
  -- 02: "file refusals 10 to 13 come first"
  bad_file : (why : Fault) (p : ℕ) → (session s).end ≡ Refused why p → TableGiven s m (fault_number why)
  -- "18 when the session has no accepted power-up"
  no_power : (session s).end ≡ File → NoneAccepted (start m) (session s).events → TableGiven s m 18
  done : (before later : List Event) (x : Settings)
      → (session s).end ≡ File
      → (session s).events ≡ before ++ (power_up x ∷ later)
      → UpAccepted (after (start m) before) x
      → TableGiven s m 0

abbrev pub Table-exactly : Type 0
Table-exactly = (s m : List ℕ) (n : ℕ) → (table_refusal s m ≡ n) ↔ TableGiven s m n

abbrev pub zeros : Extremes
zeros = record { lowest = zero_volts; highest = zero_volts; last = zero_volts }

-- 02: "all of them return all zeros"
abbrev pub Table-refused : Type 0
Table-refused = (s m : List ℕ) → table_refusal s m ≢ 0 → table_channels s m ≡ replicate 20 zeros

-- ---- The numbers

abbrev pub OneOf : Float → List Float → Type 0
OneOf x vs = (us : List Float) × (ws : List Float) × (vs ≡ us ++ (x ∷ ws))

-- The three numbers of the volts vs, the latest first. `le` is the `<=` of f32.
pub record Bounds (vs : List Float) (x : Extremes) : Type 0 where
  -- lowest and highest are reached by volts that counted, ..
  pub lowest_reached : OneOf x.lowest vs
  pub highest_reached : OneOf x.highest vs
  -- .. and none that counted lies outside
  pub inside : (v : Float) → OneOf v vs → (le x.lowest v ≡ true) × (le v x.highest ≡ true)
  pub last : (ws : List Float) × (vs ≡ x.last ∷ ws)
  pub ordered : (le x.lowest x.last ≡ true) × (le x.last x.highest ≡ true)
  -- the levels right after the power-up, 8000h, count
  pub midrange : (le x.lowest zero_volts ≡ true) × (le zero_volts x.highest ≡ true)

-- of each channel, and of that channel's own volts
abbrev pub Table-bounds : Type 0
Table-bounds =
    (s m : List ℕ) (k : ℕ)
    → k < 20
    → table_refusal s m ≡ 0
    → Bounds (volts_at k (counted_in s m)) (get_or (table_channels s m) k zeros)

-- the three numbers of the channel k
abbrev pub three_of : List ℕ → List ℕ → ℕ → List Float
three_of s m k = let e : Extremes = get_or (table_channels s m) k zeros in e.lowest ∷ e.highest ∷ e.last ∷ []

-- "5, 10 or 20 for range 0, 1, 2"
pub data Factor : ℕ → ℕ → Type 0 where
  five : Factor 0 5
  ten : Factor 1 10
  twenty : Factor 2 20

-- x is exact: the volts of a level that the channel k had when its levels counted, in the range of the power-up
pub record OfLevel (w : Counted) (k : ℕ) (x : Float) : Type 0 where
  pub later : List (List ℕ)
  pub levels : List ℕ
  pub earlier : List (List ℕ)
  pub counts : w.levels ≡ later ++ (levels ∷ earlier)
  pub times : ℕ
  pub factor : Factor w.range times
  pub exact : Exact times (get_or levels k 0) x

abbrev pub Table-exact : Type 0
Table-exact = (s m : List ℕ) (k : ℕ) (x : Float) → k < 20 → table_refusal s m ≡ 0 → OneOf x (three_of s m k) → OfLevel (counted_in s m) k x

-- 02: "Zero is positive zero.", also where it comes back from below
abbrev pub Zero-positive : Type 0
Zero-positive = (s m : List ℕ) (k : ℕ) (x : Float) → OneOf x (three_of s m k) → eq x zero_volts ≡ true → x ≡ zero_volts
