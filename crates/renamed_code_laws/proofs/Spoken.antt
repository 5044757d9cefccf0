-- Code that changes mentions the name that what is renamed has.
use Rattle.std.proofs.Common.{◌≡◌, ◌⊎◌, inl, inr, ℕ, Bool, true, false, ◌&&◌, ◌||◌, List, [], ◌∷◌, ◌++◌, Option, None, Some, slice_get, refl, sym, ap, subst, ◌∙◌, true≢false}
use Rattle.std.specs.Prelude.{Contains, nat_eq, if◌then◌else◌}
use Rattle.std.specs.List.{list_any}
use Rattle.std.specs.Option.{option_map_or, option_and_then}
use Rattle.std.proofs.lemmas.Bool.{eqb-true}
use Rattle.tree_model.specs.Tree.{TreeOf, SequenceOf}
use Rattle.tree_model.specs.Nodes.{Placed, nodes}
use Rattle.st_tree.specs.View.{method_of, sequence_of}
use Rattle.image_model.specs.Image.{EntryOf, DoItOf, ImageOf}
use Rattle.image_model.specs.Words.{number_words}
use Rattle.image_model.specs.Means.{means, means_in_doit}
use Rattle.image_model.specs.Uses.{name_used, is_sender, is_variable, is_that_class}
use Rattle.rename_model.specs.ClassRenamed.{WritingOf}
use Rattle.command_model.specs.Numbers.{number_writing}
use Rattle.mentions.specs.Mentions.{code_names, method_names}
use Rattle.mentions.proofs.Lists.{Contains-first, Contains-later}
use Rattle.mentions.proofs.Listed.{listed-own, listed-in_method, own-used, own-sent}
use Rattle.class_table.specs.declared.record.MethodRec.{MethodRec}
use Rattle.class_table.specs.declared.record.DoIt.{DoIt}
use Rattle.class_table.specs.declared.record.Place.{Place}
use Rattle.class_table.specs.declared.record.Place.TheVariants as place
use Rattle.class_table.specs.Slots.{Slots}
use Rattle.class_table.specs.View.{live_at, entry_of, doit_of, number_image}
use Rattle.class_table.proofs.Live.{or_true}
use Rattle.change_set.specs.declared.change.Change.{Change}
use Rattle.change_set.specs.declared.change.Change.TheVariants as change
use Rattle.reference_index.specs.Mentioned.{names_at}
use Rattle.renamed_code.specs.Anew.{RenamedOf, of_a_class, of_a_variable, of_a_selector, name_before, is_entry_changed, is_doit_changed}
use Rattle.renamed_code.specs.ChangedCode.{method_rec_after, doit_rec_after, change_at}
use Rattle.renamed_code.proofs.Meant.{fits-means, fits-means_in_doit}

-- an item that passes a test
passing : {X : Type 0} (p : X → Bool) (xs : List X) → list_any p xs ≡ true → (x : X) × Contains xs x × (p x ≡ true)
passing p [] e = absurd (true≢false (sym e))
passing {X} p (x ∷ xs) e = by (p x) refl e (passing p xs)
  where
    by : (b : Bool) → p x ≡ b → (b || list_any p xs) ≡ true → (list_any p xs ≡ true → (y : X) × Contains xs y × (p y ≡ true)) → (y : X) × Contains (x ∷ xs) y × (p y ≡ true)
    by true is f rest = (x, Contains-first x x xs refl, is)
    by false is f rest = let r = rest f in (r.0, Contains-later x r.0 xs r.1, r.2)

-- the first of two tests passes
first_true : (a b : Bool) → (a && b) ≡ true → a ≡ true
first_true true b e = refl
first_true false b e = e

-- a name that a node uses and that is told by a test
named-listed : (test : List ℕ → ℕ → Bool) (b : SequenceOf ℕ) (k : ℕ) → ((path : List ℕ) (n : ℕ) → test path n ≡ true → k ≡ n)
    → list_any (λ (e : Placed ℕ). option_map_or (λ n. test e.0 n) (name_used e.1) false) (nodes b) ≡ true → Contains (code_names b) k
named-listed test b k only e =
    let h = passing (λ (x : Placed ℕ). option_map_or (λ n. test x.0 n) (name_used x.1) false) (nodes b) e in
    by h.0 h.1 (name_used h.0.1) refl h.2
  where
    by : (x : Placed ℕ) → Contains (nodes b) x → (o : Option ℕ) → name_used x.1 ≡ o → option_map_or (λ n. test x.0 n) o false ≡ true → Contains (code_names b) k
    by x there None is f = absurd (true≢false (sym f))
    by x there (Some n) is f = listed-own b x.0 x.1 k there (own-used x.1 k (is ∙ ap Some (sym (only x.0 n f))))

-- a selector that a node sends
sent-listed : (b : SequenceOf ℕ) (s : ℕ) → list_any (λ (e : Placed ℕ). is_sender nat_eq s e.1) (nodes b) ≡ true → Contains (code_names b) s
sent-listed b s e =
    let h = passing (λ (x : Placed ℕ). is_sender nat_eq s x.1) (nodes b) e in
    listed-own b h.0.0 h.0.1 s h.1 (own-sent nat_eq eqb-true h.0.1 s h.2)

module _ (names : List (List ℕ)) (writing : WritingOf ℕ) (i : ImageOf ℕ) (to : ℕ) where
  -- in a method
  pub entry-spoken : (what : RenamedOf ℕ) (m : EntryOf ℕ) → is_entry_changed (number_words names) writing i to what m ≡ true → Contains (method_names m.tree) (name_before what)
  entry-spoken (of_a_class c) m e =
      listed-in_method m.tree c
      (named-listed (λ path n. is_that_class nat_eq c (means (number_words names) i m path n)) m.tree.body c (λ path n h. eqb-true c n (fits-means c n names i m path h)) e)
  entry-spoken (of_a_variable kind c x) m e =
      listed-in_method m.tree x
      (named-listed (λ path n. nat_eq x n && is_variable nat_eq kind c (means (number_words names) i m path n)) m.tree.body x
      (λ path n h. eqb-true x n (first_true (nat_eq x n) (is_variable nat_eq kind c (means (number_words names) i m path n)) h)) e)
  entry-spoken (of_a_selector s) m e = by (or_true (nat_eq s m.tree.selector) (list_any (λ (x : Placed ℕ). is_sender nat_eq s x.1) (nodes m.tree.body)) e)
    where
      by : (nat_eq s m.tree.selector ≡ true) ⊎ (list_any (λ (x : Placed ℕ). is_sender nat_eq s x.1) (nodes m.tree.body) ≡ true) → Contains (method_names m.tree) s
      by (inl h) = Contains-first m.tree.selector s (m.tree.arguments ++ code_names m.tree.body) (sym (eqb-true s m.tree.selector h))
      by (inr h) = listed-in_method m.tree s (sent-listed m.tree.body s h)

  -- in a do-it
  pub doit-spoken : (what : RenamedOf ℕ) (d : DoItOf ℕ) → is_doit_changed (number_words names) writing i to what d ≡ true → Contains (code_names d.body) (name_before what)
  doit-spoken (of_a_class c) d e =
      named-listed (λ path n. is_that_class nat_eq c (means_in_doit (number_words names) i d path n)) d.body c (λ path n h. eqb-true c n (fits-means_in_doit c n names i d path h)) e
  doit-spoken (of_a_variable kind c x) d e =
      named-listed (λ path n. nat_eq x n && is_variable nat_eq kind c (means_in_doit (number_words names) i d path n)) d.body x
      (λ path n h. eqb-true x n (first_true (nat_eq x n) (is_variable nat_eq kind c (means_in_doit (number_words names) i d path n)) h)) e
  doit-spoken (of_a_selector s) d e = sent-listed d.body s e

-- what changes at a test passes the test
only-if : {X : Type 0} (b : Bool) (x y : X) → (if b then Some x else None) ≡ Some y → (b ≡ true) × (x ≡ y)
only-if true x y e = (refl, cc)
only-if false x y e = absurd (cc)

module _ (s : Slots) (what : RenamedOf ℕ) (to : ℕ) where
  -- the method that changes
  pub method-of_change : (k : ℕ) (c : Change) → change_at s what to (place.Method k) ≡ Some c
      → (m : MethodRec) × (live_at s.methods s.method_order k ≡ Some m) × (is_entry_changed (number_words s.names) (number_writing s.names) (number_image s) to what (entry_of s.classes m) ≡ true) × (change.Method k (method_rec_after s what to m) ≡ c)
  method-of_change k c e = by (live_at s.methods s.method_order k) refl e
    where
      by : (o : Option MethodRec) → live_at s.methods s.method_order k ≡ o
          → option_and_then (λ (m : MethodRec). if is_entry_changed (number_words s.names) (number_writing s.names) (number_image s) to what (entry_of s.classes m) then Some (change.Method k (method_rec_after s what to m)) else None) o ≡ Some c
          → (m : MethodRec) × (live_at s.methods s.method_order k ≡ Some m) × (is_entry_changed (number_words s.names) (number_writing s.names) (number_image s) to what (entry_of s.classes m) ≡ true) × (change.Method k (method_rec_after s what to m) ≡ c)
      by None is f = absurd (cc)
      by (Some m) is f = let h = only-if (is_entry_changed (number_words s.names) (number_writing s.names) (number_image s) to what (entry_of s.classes m)) (change.Method k (method_rec_after s what to m)) c f in (m, is, h.0, h.1)

  -- the do-it that changes
  pub doit-of_change : (n : ℕ) (c : Change) → change_at s what to (place.DoIt n) ≡ Some c
      → (d : DoIt) × (slice_get s.doits n ≡ Some d) × (is_doit_changed (number_words s.names) (number_writing s.names) (number_image s) to what (doit_of d) ≡ true) × (change.DoIt n (doit_rec_after s what to d) ≡ c)
  doit-of_change n c e = by (slice_get s.doits n) refl e
    where
      by : (o : Option DoIt) → slice_get s.doits n ≡ o
          → option_and_then (λ (d : DoIt). if is_doit_changed (number_words s.names) (number_writing s.names) (number_image s) to what (doit_of d) then Some (change.DoIt n (doit_rec_after s what to d)) else None) o ≡ Some c
          → (d : DoIt) × (slice_get s.doits n ≡ Some d) × (is_doit_changed (number_words s.names) (number_writing s.names) (number_image s) to what (doit_of d) ≡ true) × (change.DoIt n (doit_rec_after s what to d) ≡ c)
      by None is f = absurd (cc)
      by (Some d) is f = let h = only-if (is_doit_changed (number_words s.names) (number_writing s.names) (number_image s) to what (doit_of d)) (change.DoIt n (doit_rec_after s what to d)) c f in (d, is, h.0, h.1)

  -- the names at a place that changes
  pub names_at-method : (k : ℕ) (m : MethodRec) → live_at s.methods s.method_order k ≡ Some m → names_at s (place.Method k) ≡ method_names (method_of m.tree)
  names_at-method k m e = ap (λ (o : Option MethodRec). option_map_or (λ (x : MethodRec). method_names (method_of x.tree)) o []) e

  pub names_at-doit : (n : ℕ) (d : DoIt) → slice_get s.doits n ≡ Some d → names_at s (place.DoIt n) ≡ code_names (sequence_of d.body)
  names_at-doit n d e = ap (λ (o : Option DoIt). option_map_or (λ (x : DoIt). code_names (sequence_of x.body)) o []) e

  -- the former name is among them
  pub change-spoken : (p : Place) (c : Change) → change_at s what to p ≡ Some c → Contains (names_at s p) (name_before what)
  change-spoken (place.Method k) c e =
      let h = method-of_change k c e in
      subst (λ (ns : List ℕ). Contains ns (name_before what)) (sym (names_at-method k h.0 h.1)) (entry-spoken s.names (number_writing s.names) (number_image s) to what (entry_of s.classes h.0) h.2)
  change-spoken (place.DoIt n) c e =
      let h = doit-of_change n c e in
      subst (λ (ns : List ℕ). Contains ns (name_before what)) (sym (names_at-doit n h.0 h.1)) (doit-spoken s.names (number_writing s.names) (number_image s) to what (doit_of h.0) h.2)
