-- The stack, a frame at a time.
use Rattle.std.proofs.Common.{◌≡◌, ℕ, ◌+◌, List, [], ◌∷◌, ◌++◌, refl, sym, ap, ◌∙◌, arith, length}
use Rattle.std.specs.Prelude.{Option, Some, None, option_map, slice_get, Bool, true, false, if◌then◌else◌}
use Rattle.std.proofs.Common.{Bor}
use Rattle.tree_model.specs.Tree.{TreeOf, SequenceOf, StatementsOf}
use Rattle.rb_base.specs.Names.{name_at}
use Rattle.image_model.specs.Image.{ImageOf, EntryOf}
use Rattle.image_model.specs.Words.{text_words}
use Rattle.image_model.specs.Lookup.{lookup, super_lookup}
use Rattle.run_model.specs.Values.{Name, Value, nil_value, bad_argument, does_not_understand}
use Rattle.run_model.specs.Store.{Frame, Store, Closure, Result, leaves, ends_by, with_new_cells, with_home}
use Rattle.run_model.specs.Acts.{then_do, gives, fails, and_then, with_memory, at_home, out_of_home, acts}
use Rattle.run_model.specs.Calls.{enters}
use Rattle.run_model.specs.Views.{class_name_of, is_meta}
use Rattle.run_model.specs.Eval.{statements, sequence, inside, held, in_cells, outermost, enters_with, follows, does_body, does, runs_found, message, super_message, is_super, evaluates}
use Rattle.st_meaning.specs.StoreView.{changed_by}
use Rattle.st_interp.specs.declared.state.Purpose.{Purpose}
use Rattle.st_interp.specs.declared.state.Purpose.TheVariants as purpose
use Rattle.st_interp.specs.declared.state.Pending.{Pending}
use Rattle.st_interp.specs.declared.state.Pending.TheVariants as pending
use Rattle.st_program.specs.Found.{bare}
use Rattle.st_interp.specs.Trees.{tree_at}
use Rattle.st_interp.specs.Machine.{completed, resume, plug, pending_load, stack_load}

pub plug_push : (i : ImageOf Name) (names : List Name) (ks : List Pending) (k : Pending) (r : Result Value) → plug i names (ks ++ k ∷ []) r ≡ plug i names ks (resume i names k r)
unfolding plug
plug_push i names [] k r = refl
plug_push i names (j ∷ ks) k r = ap (resume i names j) (plug_push i names ks k r)

pub load_push : (ks : List Pending) (k : Pending) → stack_load (ks ++ k ∷ []) ≡ stack_load ks + pending_load k
unfolding stack_load
load_push [] k = omega arith
load_push (j ∷ ks) k = omega (arith, load_push ks k)

-- the same at a stack that is known by an equation
pub plug_pushed : (i : ImageOf Name) (names : List Name) (ks js : List Pending) (k : Pending) (r r' : Result Value) → js ≡ ks ++ k ∷ [] → resume i names k r ≡ r' → plug i names js r ≡ plug i names ks r'
plug_pushed i names ks js k r r' e h = ap (λ x. plug i names x r) e ∙ plug_push i names ks k r ∙ ap (plug i names ks) h

pub plug_empty : (i : ImageOf Name) (names : List Name) (r : Result Value) → plug i names [] r ≡ r
unfolding plug
plug_empty i names r = refl

-- a sequence whose context was opened
pub sequence_opened : (i : ImageOf Name) (names : List Name) (ks : List Pending) (v : Value) (ps : List Name) (vs : List Value) (b : SequenceOf Name) (ss : StatementsOf Name) (f d : Frame) (s s' : Store) → v ≡ nil_value → ss ≡ b.statements → d ≡ inside f (held ps vs ++ in_cells b.temporaries (length s.memory.cells)) → s' ≡ changed_by (λ m. with_new_cells m b.temporaries) s
    → plug i names ks (statements acts (evaluates i) d v ss s') ≡ plug i names ks (sequence acts (evaluates i) f ps vs b s)
unfolding and_then with_memory
sequence_opened i names ks v ps vs b ss f d s s' z w e q = λ j. plug i names ks (statements acts (evaluates i) (e j) (z j) (w j) (q j))

-- a closure that is entered
pub closure_entered : (i : ImageOf Name) (names : List Name) (ks : List Pending) (k : ℕ) (c : Closure) (vs : List Value) (s : Store) → slice_get s.memory.closures k ≡ Some c
    → plug i names ks (sequence acts (evaluates i) c.frame c.parameters vs c.body s) ≡ plug i names ks (follows acts (evaluates i) vs (enters k) s)
unfolding and_then with_memory
closure_entered i names ks k c vs s e = ap (λ o. plug i names ks (enters_with acts (evaluates i) o vs s)) (sym e)

-- a closure that is not there
pub no_closure : (i : ImageOf Name) (names : List Name) (ks : List Pending) (k : ℕ) (vs : List Value) (s : Store) → slice_get s.memory.closures k ≡ None
    → plug i names ks (leaves (ends_by (bad_argument 50)) s) ≡ plug i names ks (follows acts (evaluates i) vs (enters k) s)
unfolding and_then with_memory fails
no_closure i names ks k vs s e = ap (λ o. plug i names ks (enters_with acts (evaluates i) o vs s)) (sym e)

-- the statements of a method in its home, which is under its answer
pub activated : (i : ImageOf Name) (names : List Name) (ks js hs : List Pending) (m : EntryOf Name) (v w : Value) (vs : List Value) (h : ℕ) (f : Frame) (ps : List Name) (b : SequenceOf Name) (s s' : Store)
    → hs ≡ ks ++ pending.Home h ∷ [] → js ≡ hs ++ pending.Answer w ∷ [] → w ≡ v → h ≡ length s.memory.homes → s' ≡ changed_by with_home s → f ≡ outermost m.class m.meta v h → ps ≡ m.tree.arguments → b ≡ m.tree.body
    → plug i names js (sequence acts (evaluates i) f ps vs b s') ≡ plug i names ks (does_body acts (evaluates i) m v vs s)
unfolding and_then with_memory at_home gives
activated i names ks js hs m v w vs h f ps b s s' e q z n r g p t =
    plug_pushed i names hs js (pending.Answer w) _ _ q refl
    ∙ plug_pushed i names ks hs (pending.Home h) _ _ e refl
    ∙ (λ j. plug i names ks (out_of_home (n j) (then_do (sequence acts (evaluates i) (at j) (p j) vs (t j) (r j)) (λ u. gives (z j)))))
  where
    at : f ≡ outermost m.class m.meta v (length s.memory.homes)
    at = g ∙ ap (outermost m.class m.meta v) n

-- what no run sees of a method changes nothing
bare_runs : (i : ImageOf Name) (o : Option (EntryOf Name)) (v : Value) (n : Name) (vs : List Value) → runs_found acts i (evaluates i) (option_map bare o) v n vs ≡ runs_found acts i (evaluates i) o v n vs
bare_runs i None v n vs = refl
bare_runs i (Some m) v n vs = by m.tree.primitive
  where
    by : (p : Option ℕ) → does acts i (evaluates i) p (bare m) v vs ≡ does acts i (evaluates i) p m v vs
    by None = refl
    by (Some k) = refl

-- a message that no method is for
pub no_method : (i : ImageOf Name) (names : List Name) (ks : List Pending) (v : Value) (c n m : Name) (b : Bool) (vs : List Value) (s : Store) → c ≡ class_name_of s.memory.heap v → b ≡ is_meta v → n ≡ m
    → plug i names ks (leaves (ends_by (does_not_understand c b n)) s) ≡ plug i names ks (runs_found acts i (evaluates i) None v m vs s)
unfolding and_then with_memory fails
no_method i names ks v c n m b vs s e q w = λ j. plug i names ks (leaves (ends_by (does_not_understand (e j) (q j) (w j))) s)

-- a message whose method was found
pub message_found : (i : ImageOf Name) (names : List Name) (ks : List Pending) (o : Option (EntryOf Name)) (v : Value) (c : Name) (b : Bool) (n : Name) (vs : List Value) (s : Store) → o ≡ option_map bare (lookup text_words i (Some c) b n) → c ≡ class_name_of s.memory.heap v → b ≡ is_meta v
    → plug i names ks (runs_found acts i (evaluates i) o v n vs s) ≡ plug i names ks (message acts i (evaluates i) v n vs s)
unfolding and_then with_memory
message_found i names ks o v c b n vs s e q m =
    ap (λ z. plug i names ks (runs_found acts i (evaluates i) z v n vs s)) (e ∙ (λ j. option_map bare (lookup text_words i (Some (q j)) (m j) n)))
    ∙ ap (λ z. plug i names ks (z s)) (bare_runs i (lookup text_words i (Some (class_name_of s.memory.heap v)) (is_meta v) n) v n vs)

-- a message to `super` whose method was found
pub super_found : (i : ImageOf Name) (names : List Name) (ks : List Pending) (o : Option (EntryOf Name)) (f : Frame) (v : Value) (n : Name) (vs : List Value) (s : Store) → o ≡ option_map bare (super_lookup text_words i f.home.class f.home.meta n)
    → plug i names ks (runs_found acts i (evaluates i) o v n vs s) ≡ plug i names ks (super_message acts i (evaluates i) f v n vs s)
super_found i names ks o f v n vs s e =
    ap (λ z. plug i names ks (runs_found acts i (evaluates i) z v n vs s)) e ∙ ap (λ z. plug i names ks (z s)) (bare_runs i (super_lookup text_words i f.home.class f.home.meta n) v n vs)

-- a send whose receiver is the name `super`
pub sent_super : (i : ImageOf Name) (names : List Name) (ks : List Pending) (p : Purpose) (v : Value) (t : Bor (TreeOf ℕ)) (n : ℕ) (f : Frame) (vs ws : List Value) (s : Store) → p ≡ purpose.Send v t n → is_super (tree_at names t.now) ≡ true → ws ≡ vs
    → plug i names ks (super_message acts i (evaluates i) f v (name_at names n) ws s) ≡ plug i names ks (completed i names p f vs s)
sent_super i names ks p v t n f vs ws s e b w =
    ap (λ z. plug i names ks (super_message acts i (evaluates i) f v (name_at names n) z s)) w
    ∙ ap (λ z. plug i names ks ((if z then super_message acts i (evaluates i) f v (name_at names n) vs else message acts i (evaluates i) v (name_at names n) vs) s)) (sym b)
    ∙ ap (λ z. plug i names ks (completed i names z f vs s)) (sym e)

-- a send with another receiver
pub sent_plainly : (i : ImageOf Name) (names : List Name) (ks : List Pending) (p : Purpose) (v : Value) (t : Bor (TreeOf ℕ)) (n : ℕ) (f : Frame) (vs ws : List Value) (s : Store) → p ≡ purpose.Send v t n → is_super (tree_at names t.now) ≡ false → ws ≡ vs
    → plug i names ks (message acts i (evaluates i) v (name_at names n) ws s) ≡ plug i names ks (completed i names p f vs s)
sent_plainly i names ks p v t n f vs ws s e b w =
    ap (λ z. plug i names ks (message acts i (evaluates i) v (name_at names n) z s)) w
    ∙ ap (λ z. plug i names ks ((if z then super_message acts i (evaluates i) f v (name_at names n) vs else message acts i (evaluates i) v (name_at names n) vs) s)) (sym b)
    ∙ ap (λ z. plug i names ks (completed i names z f vs s)) (sym e)
