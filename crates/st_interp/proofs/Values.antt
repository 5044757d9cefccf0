-- Values of trees in a row, cascades and truth values.
use Rattle.std.proofs.Common.{◌≡◌, ◌≢◌, ℕ, List, [], ◌∷◌, ◌++◌, Bool, true, false, Option, Some, None, Bor, Global, refl, sym, ap, ◌∙◌, append_assoc, length, arith}
use Rattle.std.proofs.lemmas.List.{append-nil}
use Rattle.std.specs.declared.rc.Rc.{Rc}
use Rattle.rb_base.specs.Names.{name_at}
use Rattle.tree_model.specs.Tree.{TreeOf}
use Rattle.st_tree.specs.declared.tree.Message.{Message}
use Rattle.image_model.specs.Image.{ImageOf}
use Rattle.run_model.specs.Values.{Name, Value, nil_value, true_value, false_value, int_value, char_value, string_value, symbol_value, class_value, object_value, array_value, closure_value, transcript_value, non_boolean}
use Rattle.run_model.specs.Store.{Frame, Store, Result, fine, leaves, ends_by}
use Rattle.run_model.specs.Acts.{Act, then_do, gives, fails, and_then, acts}
use Rattle.run_model.specs.Eval.{node, values, message, messages, chooses, goes_on, in_place, evaluates}
use Rattle.st_meaning.specs.declared.context.Context.{Context}
use Rattle.st_interp.specs.declared.state.Purpose.{Purpose}
use Rattle.st_interp.specs.declared.state.Purpose.TheVariants as purpose
use Rattle.st_interp.specs.declared.state.Loop.{Loop}
use Rattle.st_interp.specs.declared.state.Pending.{Pending}
use Rattle.st_interp.specs.declared.state.Pending.TheVariants as pending
use Rattle.st_interp.specs.Trees.{tree_at, trees_at, messages_at, sequence_at}
use Rattle.st_interp.specs.Booleans.{boolean_of}
use Rattle.st_interp.specs.Machine.{completed, completes, turns, tested, resume, plug}
use Rattle.st_interp.proofs.Plug.{plug_pushed}

then_then : {A B C : Type 0} (r : Result A) (k : A → Act B) (h : B → Act C) → then_do (then_do r k) h ≡ then_do r (λ a s. then_do (k a s) h)
then_then (fine a s) k h = refl
then_then (leaves x s) k h = refl

-- no trees are left
pub arguments_none : (i : ImageOf Name) (names : List Name) (ks : List Pending) (p : Purpose) (f g : Frame) (done : List Value) (ts : List (TreeOf ℕ)) (s : Store) → length ts ≡ 0 → g ≡ f
    → plug i names ks (completed i names p g done s) ≡ plug i names ks (completes i names p f done ts s)
unfolding and_then gives
arguments_none i names ks p f g done [] s e q = λ j. plug i names ks (completed i names p (q j) (sym (append-nil done) j) s)
arguments_none i names ks p f g done (t ∷ ts) s e q = absurd (omega arith)

-- one tree more
next_completes : (i : ImageOf Name) (names : List Name) (p : Purpose) (f : Frame) (done : List Value) (t : TreeOf ℕ) (ts : List (TreeOf ℕ)) (s : Store)
    → completes i names p f done (t ∷ ts) s ≡ then_do (evaluates i (node f (tree_at names t)) s) (λ v. completes i names p f (done ++ v ∷ []) ts)
unfolding and_then gives
next_completes i names p f done t ts s =
    then_then (evaluates i (node f (tree_at names t)) s) _ _
    ∙ (λ j. then_do (evaluates i (node f (tree_at names t)) s) (λ v s1. then_then (values acts (evaluates i) f (trees_at names ts) s1) (λ vs s2. fine (v ∷ vs) s2) (λ vs. completed i names p f (done ++ vs)) j))
    ∙ (λ j. then_do (evaluates i (node f (tree_at names t)) s) (λ v s1. then_do (values acts (evaluates i) f (trees_at names ts) s1) (λ vs. completed i names p f (sym (append_assoc done (v ∷ []) vs) j))))

pub argument_next : (i : ImageOf Name) (names : List Name) (ks : List Pending) (p : Purpose) (done : List Value) (f : Frame) (ts : List (TreeOf ℕ)) (t : TreeOf ℕ) (c : Rc Context Global) (left : Bor (List (TreeOf ℕ))) (s : Store) → ts ≡ t ∷ left.now → c.value ≡ f
    → plug i names ks (resume i names (pending.Arguments p done left c) (evaluates i (node f (tree_at names t)) s)) ≡ plug i names ks (completes i names p f done ts s)
argument_next i names ks p done f ts t c left s q w =
    (λ j. plug i names ks (then_do (evaluates i (node f (tree_at names t)) s) (λ v. completes i names p (w j) (done ++ v ∷ []) left.now)))
    ∙ ap (plug i names ks) (sym (next_completes i names p f done t left.now s))
    ∙ ap (λ z. plug i names ks (completes i names p f done z s)) (sym q)

-- one message of a cascade more
pub message_next : (i : ImageOf Name) (names : List Name) (ks js : List Pending) (v v' w : Value) (m : Message) (ms : List Message) (left : Bor (List Message)) (c : Rc Context Global) (f : Frame) (done : List Value) (ts : List (TreeOf ℕ)) (s : Store) → js ≡ ks ++ pending.Cascaded v' left c ∷ [] → ms ≡ m ∷ left.now → v' ≡ v → c.value ≡ f → done ≡ [] → ts ≡ m.arguments
    → plug i names js (completes i names (purpose.Message v m.selector) f done ts s) ≡ plug i names ks (messages acts i (evaluates i) f v w (messages_at names ms) s)
unfolding and_then
message_next i names ks js v v' w m ms left c f done ts s e q h g d x =
    plug_pushed i names ks js (pending.Cascaded v' left c) _ _ e refl
    ∙ (λ j. plug i names ks (then_do (completes i names (purpose.Message v m.selector) f (d j) (x j) s) (λ u. messages acts i (evaluates i) (g j) (h j) u (messages_at names left.now))))
    ∙ ap (plug i names ks) (then_then (values acts (evaluates i) f (trees_at names m.arguments) s) (λ vs. message acts i (evaluates i) v (name_at names m.selector) vs) (λ u. messages acts i (evaluates i) f v u (messages_at names left.now)))
    ∙ ap (λ z. plug i names ks (messages acts i (evaluates i) f v w (messages_at names z) s)) (sym q)

-- the act for a truth value, and the error where there is none
abbrev chosen : Option Bool → Act Value → Act Value → Act Value
chosen (Some true) a b = a
chosen (Some false) a b = b
chosen None a b = acts.fails non_boolean

chooses_chosen : (v : Value) (a b : Act Value) → chooses acts v a b ≡ chosen (boolean_of v) a b
chooses_chosen true_value a b = refl
chooses_chosen false_value a b = refl
chooses_chosen nil_value a b = refl
chooses_chosen (int_value z) a b = refl
chooses_chosen (char_value c) a b = refl
chooses_chosen (string_value t) a b = refl
chooses_chosen (symbol_value t) a b = refl
chooses_chosen (class_value c) a b = refl
chooses_chosen (object_value k) a b = refl
chooses_chosen (array_value k) a b = refl
chooses_chosen (closure_value k) a b = refl
chooses_chosen transcript_value a b = refl

chooses_as : (v : Value) (o : Option Bool) (a b : Act Value) → boolean_of v ≡ o → chooses acts v a b ≡ chosen o a b
chooses_as v o a b e = chooses_chosen v a b ∙ ap (λ z. chosen z a b) e

pub chooses_yes : (i : ImageOf Name) (names : List Name) (ks : List Pending) (v : Value) (holds : Bool) (a b : Act Value) (s : Store) → boolean_of v ≡ Some holds → holds ≡ true → plug i names ks (a s) ≡ plug i names ks (chooses acts v a b s)
chooses_yes i names ks v holds a b s e h = ap (λ z. plug i names ks (z s)) (sym (chooses_as v (Some true) a b (e ∙ ap Some h)))

pub chooses_no : (i : ImageOf Name) (names : List Name) (ks : List Pending) (v : Value) (holds : Bool) (a b : Act Value) (s : Store) → boolean_of v ≡ Some holds → holds ≡ false → plug i names ks (b s) ≡ plug i names ks (chooses acts v a b s)
chooses_no i names ks v holds a b s e h = ap (λ z. plug i names ks (z s)) (sym (chooses_as v (Some false) a b (e ∙ ap Some h)))

pub chooses_fails : (i : ImageOf Name) (names : List Name) (ks : List Pending) (v : Value) (a b : Act Value) (s : Store) → boolean_of v ≡ None → plug i names ks (leaves (ends_by non_boolean) s) ≡ plug i names ks (chooses acts v a b s)
unfolding fails
chooses_fails i names ks v a b s e = ap (λ z. plug i names ks (z s)) (sym (chooses_as v None a b e))

-- what follows on a loop's test that is this truth value, or none
abbrev gone : Option Bool → Bool → Act Value → Act Value
gone o true again = chosen o again (acts.gives nil_value)
gone o false again = chosen o (acts.gives nil_value) again

goes_on_gone : (sense : Bool) (v : Value) (again : Act Value) → goes_on acts sense v again ≡ gone (boolean_of v) sense again
goes_on_gone true v again = chooses_chosen v again (acts.gives nil_value)
goes_on_gone false v again = chooses_chosen v (acts.gives nil_value) again

gone_as : (i : ImageOf Name) (names : List Name) (f : Frame) (l : Loop) (v : Value) (o : Option Bool) (s : Store) → boolean_of v ≡ o
    → tested i names f l v s ≡ gone o l.sense (and_then (in_place acts (evaluates i) f (sequence_at names l.body.now)) (λ u. turns i names f l)) s
gone_as i names f l v o s e =
    ap (λ z. z s) (goes_on_gone l.sense v (and_then (in_place acts (evaluates i) f (sequence_at names l.body.now)) (λ u. turns i names f l)))
    ∙ ap (λ z. gone z l.sense (and_then (in_place acts (evaluates i) f (sequence_at names l.body.now)) (λ u. turns i names f l)) s) e

pub loop_fails : (i : ImageOf Name) (names : List Name) (ks : List Pending) (f : Frame) (l : Loop) (v : Value) (s : Store) → boolean_of v ≡ None
    → plug i names ks (leaves (ends_by non_boolean) s) ≡ plug i names ks (tested i names f l v s)
unfolding fails
loop_fails i names ks f l v s e = ap (plug i names ks) (sym (gone_as i names f l v None s e ∙ by l.sense))
  where
    by : (b : Bool) → gone None b (and_then (in_place acts (evaluates i) f (sequence_at names l.body.now)) (λ u. turns i names f l)) s ≡ leaves (ends_by non_boolean) s
    by true = refl
    by false = refl

pub loop_ends : (i : ImageOf Name) (names : List Name) (ks : List Pending) (f : Frame) (l : Loop) (v w : Value) (holds : Bool) (s : Store) → boolean_of v ≡ Some holds → holds ≢ l.sense → w ≡ nil_value
    → plug i names ks (fine w s) ≡ plug i names ks (tested i names f l v s)
unfolding gives
loop_ends i names ks f l v w holds s e n z = ap (λ x. plug i names ks (fine x s)) z ∙ ap (plug i names ks) (sym (gone_as i names f l v (Some holds) s e ∙ by holds l.sense n))
  where
    by : (b c : Bool) → b ≢ c → gone (Some b) c (and_then (in_place acts (evaluates i) f (sequence_at names l.body.now)) (λ u. turns i names f l)) s ≡ fine nil_value s
    by true true h = absurd (h refl)
    by true false h = refl
    by false true h = refl
    by false false h = absurd (h refl)

pub loop_goes_on : (i : ImageOf Name) (names : List Name) (ks js : List Pending) (f g : Frame) (l : Loop) (c : Rc Context Global) (v : Value) (holds : Bool) (s : Store) → boolean_of v ≡ Some holds → holds ≡ l.sense → js ≡ ks ++ pending.Turned l c ∷ [] → g ≡ c.value → f ≡ c.value
    → plug i names js (in_place acts (evaluates i) g (sequence_at names l.body.now) s) ≡ plug i names ks (tested i names f l v s)
unfolding and_then
loop_goes_on i names ks js f g l c v holds s e n q w x =
    plug_pushed i names ks js (pending.Turned l c) _ _ q refl
    ∙ (λ j. plug i names ks (then_do (in_place acts (evaluates i) (w j) (sequence_at names l.body.now) s) (λ u. turns i names c.value l)))
    ∙ (λ j. plug i names ks (then_do (in_place acts (evaluates i) (sym x j) (sequence_at names l.body.now) s) (λ u. turns i names (sym x j) l)))
    ∙ ap (plug i names ks) (sym (gone_as i names f l v (Some holds) s e ∙ by holds l.sense n))
  where
    by : (b c : Bool) → b ≡ c → gone (Some b) c (and_then (in_place acts (evaluates i) f (sequence_at names l.body.now)) (λ u. turns i names f l)) s ≡ then_do (in_place acts (evaluates i) f (sequence_at names l.body.now) s) (λ u. turns i names f l)
    by true true h = refl
    by true false h = absurd (cc)
    by false true h = absurd (cc)
    by false false h = refl
