-- With `nil` as one more do-it, selectors, variables and classes are used where they were.
use Rattle.std.proofs.Common.{◌≡◌, ℕ, ◌+◌, Bool, true, false, ◌&&◌, List, [], ◌∷◌, ◌++◌, length, map, filter, slice_get, Option, Some, None, refl, sym, ap, ◌∙◌, append_assoc, length-append, arith}
use Rattle.std.specs.Prelude.{cond, codes}
use Rattle.std.specs.List.{AllByRecursion, flat_map, enumerate_from}
use Rattle.std.specs.Option.{option_map_or}
use Rattle.std.proofs.lemmas.List.{append-nil}
use Rattle.std.proofs.lemmas.List.Elements.{filter-append}
use Rattle.rb_base.specs.Names.{text_eq}
use Rattle.tree_model.specs.Tree.{var}
use Rattle.tree_model.specs.Nodes.{nodes}
use Rattle.scope_model.specs.SpecialNames.{is_pseudo_variable}
use Rattle.image_model.specs.Image.{EntryOf, DoItOf, ImageOf, plus}
use Rattle.image_model.specs.Words.{text_words}
use Rattle.image_model.specs.Means.{VariableKind, MeaningOf, undeclared, means_in_doit}
use Rattle.image_model.specs.Nodes.{in_method, in_doit, NodeOf, nodes_of, image_nodes, means_in}
use Rattle.image_model.specs.Uses.{is_sender, is_variable, is_that_class, name_used, uses, places, senders, variable_uses, class_uses}
use Rattle.run_model.specs.Values.{Name}
use Rattle.session_model.specs.Admitted.{nil_doit}

-- the items of a numbered list with one more item
numbered : {A B : Type 0} (f : ℕ × A → List B) (k : ℕ) (xs : List A) (x : A) → (n : ℕ) × (flat_map f (enumerate_from k (xs ++ x ∷ [])) ≡ flat_map f (enumerate_from k xs) ++ f (n, x))
numbered f k [] x = (k, append-nil (f (k, x)))
numbered f k (y ∷ xs) x =
    let rest = numbered f (k + 1) xs x in
    (rest.0, ap (λ l. f (k, y) ++ l) rest.1 ∙ sym (append_assoc (f (k, y)) (flat_map f (enumerate_from (k + 1) xs)) (f (rest.0, x))))

-- tests that agree on each item
same-passing : {A : Type 0} (p q : A → Bool) (xs : List A) → AllByRecursion (λ x. p x ≡ q x) xs → filter p xs ≡ filter q xs
same-passing p q [] all = refl
same-passing p q (x ∷ xs) all = ap (λ b. cond b (x ∷ filter p xs) (filter p xs)) all.0 ∙ ap (λ l. cond (q x) (x ∷ l) l) (same-passing p q xs all.1)

-- what holds of the items of each list holds of all
all-joined : {A : Type 0} (P : A → Type 0) (xs ys : List A) → AllByRecursion P xs → AllByRecursion P ys → AllByRecursion P (xs ++ ys)
all-joined P [] ys a b = b
all-joined P (x ∷ xs) ys a b = (a.0, all-joined P xs ys a.1 b)

all-mapped : {A B : Type 0} (P : B → Type 0) (f : A → B) (xs : List A) → ((x : A) → P (f x)) → AllByRecursion P (map f xs)
all-mapped P f [] h = tt
all-mapped P f (x ∷ xs) h = (h x, all-mapped P f xs h)

pub all-implied : {A : Type 0} (P Q : A → Type 0) → ((x : A) → P x → Q x) → (xs : List A) → AllByRecursion P xs → AllByRecursion Q xs
all-implied P Q h [] all = tt
all-implied P Q h (x ∷ xs) all = (h x all.0, all-implied P Q h xs all.1)

-- the item behind the front of a list
behind : {A : Type 0} (front : List A) (x : A) (rest : List A) (k : ℕ) → k ≡ length front → slice_get (front ++ x ∷ rest) k ≡ Some x
behind [] x rest k e = ap (slice_get (x ∷ rest)) e
behind (y ∷ front) x rest k e = ap (slice_get (y ∷ front ++ x ∷ rest)) e ∙ behind front x rest (length front) refl

-- what is denied is no test
pub and-false : (b : Bool) → (b && false) ≡ false
and-false true = refl
and-false false = refl

module _ (i : ImageOf Name) where
  pub nodes-plus : (n : ℕ) × (image_nodes (plus i nil_doit) ≡ image_nodes i ++ nodes_of (in_doit n) nil_doit.body)
  nodes-plus =
      let more = numbered (λ (e : ℕ × DoItOf Name). nodes_of (in_doit e.0) e.1.body) 0 i.doits nil_doit in (
        more.0,
        ap (λ l. flat_map (λ (e : ℕ × EntryOf Name). nodes_of (in_method e.0) e.1.tree.body) (enumerate_from 0 i.methods) ++ l) more.1
            ∙ sym (append_assoc (flat_map (λ (e : ℕ × EntryOf Name). nodes_of (in_method e.0) e.1.tree.body) (enumerate_from 0 i.methods))
            (flat_map (λ (e : ℕ × DoItOf Name). nodes_of (in_doit e.0) e.1.body) (enumerate_from 0 i.doits)) (nodes_of (in_doit more.0) nil_doit.body)),
      )

  -- nodes that pass a test, where `nil` does not
  passing-plus : (p q : NodeOf Name → Bool) → AllByRecursion (λ e. p e ≡ q e) (image_nodes i) → ((n : ℕ) → filter p (nodes_of (in_doit n) nil_doit.body) ≡ []) →
      places (filter p (image_nodes (plus i nil_doit))) ≡ places (filter q (image_nodes i))
  passing-plus p q agree none =
      let more = nodes-plus in
      ap places (ap (filter p) more.1 ∙ filter-append p (image_nodes i) (nodes_of (in_doit more.0) nil_doit.body)
      ∙ ap (λ l. filter p (image_nodes i) ++ l) (none more.0) ∙ append-nil (filter p (image_nodes i)) ∙ same-passing p q (image_nodes i) agree)

  all-same : {A : Type 0} (p : A → Bool) (xs : List A) → AllByRecursion (λ x. p x ≡ p x) xs
  all-same p [] = tt
  all-same p (x ∷ xs) = (refl, all-same p xs)

  -- selectors
  pub senders-plus : (s : Name) → senders text_words (plus i nil_doit) s ≡ senders text_words i s
  senders-plus s =
      passing-plus (λ (e : NodeOf Name). is_sender text_eq s e.tree) (λ (e : NodeOf Name). is_sender text_eq s e.tree) (all-same (λ (e : NodeOf Name). is_sender text_eq s e.tree) (image_nodes i)) (λ n. refl)

  -- what names mean at the nodes of methods and do-its
  abbrev pub MeansAsMuch : NodeOf Name → Type 0
  MeansAsMuch e = (path : List ℕ) (n : Name) → means_in text_words (plus i nil_doit) e.use_of.place path n ≡ means_in text_words i e.use_of.place path n

  methods-agree : (k : ℕ) (ms : List (EntryOf Name)) → AllByRecursion MeansAsMuch (flat_map (λ (e : ℕ × EntryOf Name). nodes_of (in_method e.0) e.1.tree.body) (enumerate_from k ms))
  methods-agree k [] = tt
  methods-agree k (m ∷ ms) =
      all-joined MeansAsMuch (nodes_of (in_method k) m.tree.body) _ (all-mapped MeansAsMuch _ (nodes m.tree.body) (λ x path n. refl)) (methods-agree (k + 1) ms)

  doits-agree : (front ds : List (DoItOf Name)) (k : ℕ) → i.doits ≡ front ++ ds → k ≡ length front →
      AllByRecursion MeansAsMuch (flat_map (λ (e : ℕ × DoItOf Name). nodes_of (in_doit e.0) e.1.body) (enumerate_from k ds))
  doits-agree front [] k parts e = tt
  doits-agree front (d ∷ ds) k parts e =
      let before : slice_get i.doits k ≡ Some d = ap (λ l. slice_get l k) parts ∙ behind front d ds k e in
      let after : slice_get (i.doits ++ nil_doit ∷ []) k ≡ Some d =
      ap (λ l. slice_get (l ++ nil_doit ∷ []) k) parts ∙ ap (λ l. slice_get l k) (append_assoc front (d ∷ ds) (nil_doit ∷ [])) ∙ behind front d (ds ++ nil_doit ∷ []) k e in
      all-joined MeansAsMuch (nodes_of (in_doit k) d.body) _
      (all-mapped MeansAsMuch _ (nodes d.body) (λ x path n. ap (λ o. option_map_or (λ (c : DoItOf Name). means_in_doit text_words i c path n) o undeclared) (after ∙ sym before)))
      (doits-agree (front ++ d ∷ []) ds (k + 1) (parts ∙ sym (append_assoc front (d ∷ []) ds)) (omega (arith, e, length-append front (d ∷ []))))

  pub meanings-agree : AllByRecursion MeansAsMuch (image_nodes i)
  meanings-agree = all-joined MeansAsMuch _ _ (methods-agree 0 i.methods) (doits-agree [] i.doits 0 refl refl)

  -- the uses that pass a test, where `nil` does not
  uses-plus : (test : Name → MeaningOf Name → Bool) → ((o : Option (DoItOf Name)) → test (codes "nil") (option_map_or (λ (d : DoItOf Name). means_in_doit text_words (plus i nil_doit) d (0 ∷ []) (codes "nil")) o undeclared) ≡ false) →
      places (filter (uses text_words (plus i nil_doit) test) (image_nodes (plus i nil_doit))) ≡ places (filter (uses text_words i test) (image_nodes i))
  uses-plus test none =
      passing-plus (uses text_words (plus i nil_doit) test) (uses text_words i test)
      (all-implied MeansAsMuch (λ e. uses text_words (plus i nil_doit) test e ≡ uses text_words i test e)
      (λ e same j. option_map_or (λ n. test n (same e.use_of.path n j)) (name_used e.tree) false) (image_nodes i) meanings-agree)
      (λ n. ap (λ b. cond b (record { use_of = record { place = in_doit n; path = 0 ∷ [] }; tree = var (codes "nil") } ∷ []) []) (none (slice_get (i.doits ++ nil_doit ∷ []) n)))

  -- classes
  no-class : (c : Name) (o : Option (DoItOf Name)) → is_that_class text_eq c (option_map_or (λ (d : DoItOf Name). means_in_doit text_words (plus i nil_doit) d (0 ∷ []) (codes "nil")) o undeclared) ≡ false
  unfolding is_pseudo_variable
  no-class c None = refl
  no-class c (Some d) = refl

  pub class_uses-plus : (c : Name) → class_uses text_words (plus i nil_doit) c ≡ class_uses text_words i c
  class_uses-plus c = uses-plus (λ m meaning. is_that_class text_eq c meaning) (no-class c)

  -- variables
  no-variable : (n c : Name) (kind : VariableKind) (o : Option (DoItOf Name)) →
      (text_eq n (codes "nil") && is_variable text_eq kind c (option_map_or (λ (d : DoItOf Name). means_in_doit text_words (plus i nil_doit) d (0 ∷ []) (codes "nil")) o undeclared)) ≡ false
  unfolding is_pseudo_variable
  no-variable n c kind None = and-false (text_eq n (codes "nil"))
  no-variable n c kind (Some d) = and-false (text_eq n (codes "nil"))

  pub variable_uses-plus : (c n : Name) (kind : VariableKind) → variable_uses text_words (plus i nil_doit) c n kind ≡ variable_uses text_words i c n kind
  variable_uses-plus c n kind = uses-plus (λ m meaning. text_eq n m && is_variable text_eq kind c meaning) (no-variable n c kind)
