-- Runs of the do-its of an image.
use Rattle.std.specs.Prelude.{◌<◌, ◌≡◌, ℕ, ◌+◌, ◌*◌, ◌-◌, Bool, true, false, List, [], ◌∷◌, find, Option, option_map}
use Rattle.image_model.specs.Image.{ClassOf, DoItOf, ImageOf}
use Rattle.image_model.specs.Words.{text_words}
use Rattle.run_model.specs.Values.{Name, Value, nil_value, Event, cannot_return, Outcome, done, failed, spent}
use Rattle.run_model.specs.Store.{Store, start, returns, ends_by, out_of_ticks, Result, fine, leaves}
use Rattle.run_model.specs.Operations.{Operations}
use Rattle.run_model.specs.Acts.{acts}
use Rattle.run_model.specs.Views.{view_of, run_text}
use Rattle.run_model.specs.Eval.{Evaluator, sequence, makes_home, outermost, eval, evaluates}

-- the class of which a do-it is read as a method: `UndefinedObject`
abbrev pub doit_class : ImageOf Name → Option Name
doit_class i = option_map (λ (c : ClassOf _). c.name) (find (λ c. text_words.is_undefined_object c.name) i.classes)

module _ (w : Operations) where
  -- a do-it: its statements in a new home, where self is nil
  abbrev pub does_doit : ImageOf Name → Evaluator w → DoItOf Name → w.Act Value
  does_doit i go d = w.and_then (makes_home w) (λ h. w.at_home h (sequence w go (outermost (doit_class i) false nil_value h) [] [] d.body))

  -- do-its in order; v is the value of the one before
  abbrev pub does_doits : ImageOf Name → Evaluator w → Value → List (DoItOf Name) → w.Act Value
  does_doits i go v [] = w.gives v
  does_doits i go v (d ∷ ds) = w.and_then (does_doit i go d) (λ u. does_doits i go u ds)

  -- the do-its of an image in order, with so much depth
  abbrev pub does_all : ImageOf Name → ℕ → w.Act Value
  does_all i d = does_doits i (eval w i d) nil_value i.doits

-- what the do-its of an image come to with so much depth and so many ticks
abbrev pub comes_to : ImageOf Name → ℕ → ℕ → Result Value
comes_to i d n = does_all acts i d (start n)

-- the same with the evaluator that has depth enough for its ticks
abbrev pub comes_to_at_last : ImageOf Name → ℕ → Result Value
comes_to_at_last i n = does_doits acts i (evaluates i) nil_value i.doits (start n)

-- fewer ticks are left than b where evaluation goes on, and none where it is spent
abbrev pub IsWithin : {A : Type 0} → ℕ → Result A → Type 0
IsWithin b (fine a s) = s.ticks < b
IsWithin b (leaves (returns h v) s) = s.ticks < b
IsWithin b (leaves (ends_by e) s) = Unit {0}
IsWithin b (leaves out_of_ticks s) = s.ticks ≡ 0

-- what is seen of a run
pub record RunOf : Type 0 where
  pub events : List Event
  pub outcome : Outcome
  pub ticks : ℕ

-- how a run comes out
abbrev pub outcome_of : Result Value → Outcome
outcome_of (fine v s) = done (view_of s.memory.heap v)
outcome_of (leaves (returns h v) s) = failed cannot_return
outcome_of (leaves (ends_by e) s) = failed e
outcome_of (leaves out_of_ticks s) = spent

-- the store at the end
abbrev pub store_of : {A : Type 0} → Result A → Store
store_of (fine a s) = s
store_of (leaves x s) = s

-- what is seen of a result that began with so many ticks: the events, the outcome, and how many ticks were taken
abbrev pub seen : ℕ → Result Value → RunOf
seen n r = record { events = (store_of r).events; outcome = outcome_of r; ticks = n - (store_of r).ticks }

-- the run with so much depth and so many ticks
abbrev pub run_to : ImageOf Name → ℕ → ℕ → RunOf
run_to i d n = seen n (comes_to i d n)

-- the run with n ticks, which has depth 2 n + 2
unfoldable pub run : ImageOf Name → ℕ → RunOf
run i n = run_to i (2 * n + 2) n

-- whether a run has ended, with a result or an error
abbrev pub has_ended : Outcome → Bool
has_ended (done v) = true
has_ended (failed e) = true
has_ended spent = false

-- what is printed of the run with n ticks
abbrev pub printed_run : ImageOf Name → ℕ → List ℕ
printed_run i n = run_text n (run i n).events (run i n).outcome
