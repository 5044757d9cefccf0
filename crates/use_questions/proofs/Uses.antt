-- The uses of a class or a variable, and the code in which a name means it.
use Rattle.std.proofs.Common.{◌≡◌, ℕ, Bool, true, false, ◌&&◌, ◌||◌, List, [], Option, None, Some, slice_get, option_map, find, refl, sym, ap, ◌∙◌, arith, true≢false}
use Rattle.std.specs.Prelude.{nat_eq, filter, Contains}
use Rattle.std.specs.List.{list_any, flat_map, enumerate_from}
use Rattle.std.specs.Option.{option_map_or}
use Rattle.std.proofs.Math.Bool.{and_comm}
use Rattle.std.proofs.lemmas.Bool.{and_parts}
use Rattle.std.proofs.lemmas.List.Folds.{list_any-append}
use Rattle.tree_model.specs.Tree.{SequenceOf}
use Rattle.tree_model.specs.Nodes.{Placed, nodes}
use Rattle.scope_model.specs.NameTests.{is_pseudo_in}
use Rattle.image_model.specs.Image.{ClassOf, EntryOf, DoItOf, ImageOf}
use Rattle.image_model.specs.Words.{WordsOf, number_words}
use Rattle.image_model.specs.Chain.{chain}
use Rattle.image_model.specs.Means.{MeaningOf, undeclared, means_outside, means, means_in_doit}
use Rattle.image_model.specs.Nodes.{Place, in_method, in_doit, Use, NodeOf, nodes_of, image_nodes, means_in}
use Rattle.image_model.specs.Uses.{name_used, is_variable, is_that_class, uses, places}
use Rattle.mentions.specs.Mentions.{code_names, method_names}
use Rattle.class_table.specs.Slots.{Slots}
use Rattle.class_table.specs.View.{number_image}
use Rattle.name_meanings.specs.Meanings.{kind_of}
use Rattle.code_questions.specs.declared.question.Question as question
use Rattle.code_questions.specs.declared.question.Way.TheVariants as way
use Rattle.code_questions.specs.declared.question.Whose.TheVariants as whose
use Rattle.code_questions.specs.Questions.{in_node}
use Rattle.code_questions.proofs.Witnesses.{any-mapped}
use Rattle.code_questions.proofs.Mentioning.{found-method, found-doit}
use Rattle.use_questions.specs.declared.question.Meant.{Meant}
use Rattle.use_questions.specs.declared.question.Meant.TheVariants as meant
use Rattle.use_questions.specs.Questions.{name_of, is_meant, in_code}
use Rattle.use_questions.specs.Questions as asked
use Rattle.use_questions.proofs.Tests.{alike, beside, weaker, any-kept, any-numbered}
use Rattle.use_questions.proofs.Meanings.{IsOfGlobals, meaning_at, passes-outside, used-free, class-name}

-- a test that implies another one, beside that one
implied : (a b : Bool) → (b ≡ true → a ≡ true) → b ≡ (a && b)
implied true b h = refl
implied false true h = absurd (true≢false (sym (h refl)))
implied false false h = refl

-- two tests of an option
option-alike : (p q : ℕ → Bool) (o : Option ℕ) → ((n : ℕ) → p n ≡ q n) → option_map_or p o false ≡ option_map_or q o false
option-alike p q None same = refl
option-alike p q (Some n) same = same n

option-weaker : (p q : ℕ → Bool) (o : Option ℕ) → option_map_or (λ n. p n && q n) o false ≡ true → option_map_or p o false ≡ true
option-weaker p q None e = e
option-weaker p q (Some n) e = (and_parts (p n) (q n) e).0

-- no pseudo-variable, argument or temporary is a class or a variable of a class
globals : (what : Meant) → IsOfGlobals (is_meant what)
globals (meant.Class c) = record { no_pseudo = refl; no_argument = λ scope. refl; no_temporary = λ scope. refl }
globals (meant.Variable kind c x) = record { no_pseudo = refl; no_argument = λ scope. refl; no_temporary = λ scope. refl }

-- whether a name that has a meaning is a use of it
abbrev pub is_use : Meant → ℕ → MeaningOf ℕ → Bool
is_use (meant.Class c) n meaning = is_that_class nat_eq c meaning
is_use (meant.Variable kind c x) n meaning = nat_eq x n && is_variable nat_eq (kind_of kind) c meaning

module _ (s : Slots) (what : Meant) where
  abbrev w : WordsOf ℕ
  w = number_words s.names

  abbrev i : ImageOf ℕ
  i = number_image s

  -- what names stand for in a sequence with these arguments, in a class and on a side
  abbrev pub meaning : List ℕ → SequenceOf ℕ → Option ℕ → Bool → List ℕ → ℕ → MeaningOf ℕ
  meaning given b home meta = meaning_at (is_pseudo_in s.names) (record { arguments = given; temporaries = b.temporaries; statements = b.statements }) (means_outside w i home meta)

  -- whether a node has the name, and the name means what is asked for
  abbrev is_named : (List ℕ → ℕ → MeaningOf ℕ) → Placed ℕ → Bool
  is_named at e = option_map_or (λ n. nat_eq (name_of what) n && is_meant what (at e.0 n)) (name_used e.1) false

  -- where a node does, the name is free
  named-code : (given : List ℕ) (b : SequenceOf ℕ) (home : Option ℕ) (meta : Bool) → list_any (is_named (meaning given b home meta)) (nodes b) ≡ in_code s.names what (meaning given b home meta [] (name_of what)) b
  named-code given b home meta =
      used-free (is_pseudo_in s.names) (is_meant what) (globals what) (record { arguments = given; temporaries = b.temporaries; statements = b.statements }) (means_outside w i home meta) (name_of what)

  -- a use has the name
  pub use-named : (given : List ℕ) (b : SequenceOf ℕ) (home : Option ℕ) (meta : Bool) (path : List ℕ) (n : ℕ)
      → is_use what n (meaning given b home meta path n) ≡ (nat_eq (name_of what) n && is_meant what (meaning given b home meta path n))
  use-named given b home meta path n = by what
    where
      by : (v : Meant) → is_use v n (meaning given b home meta path n) ≡ (nat_eq (name_of v) n && is_meant v (meaning given b home meta path n))
      by (meant.Class c) =
          implied (nat_eq c n) (is_that_class nat_eq c (meaning given b home meta path n))
          (λ e. class-name s.names i.classes (chain nat_eq i.classes home) meta c n
          (passes-outside (is_pseudo_in s.names) (is_that_class nat_eq c) (globals (meant.Class c)) (record { arguments = given; temporaries = b.temporaries; statements = b.statements }) (means_outside w i home meta) path n e))
      by (meant.Variable kind c x) = refl

  -- the nodes of the code at a place that use it, where a place is asked
  used-at : (is_place : Place → Bool) (place : Place) (given : List ℕ) (b : SequenceOf ℕ) (home : Option ℕ) (meta : Bool) → ((path : List ℕ) (n : ℕ) → means_in w i place path n ≡ meaning given b home meta path n)
      → list_any (λ (e : NodeOf ℕ). uses w i (is_use what) e && is_place e.use_of.place) (nodes_of place b) ≡ (is_place place && in_code s.names what (meaning given b home meta [] (name_of what)) b)
  used-at is_place place given b home meta is =
      let node : Placed ℕ → NodeOf ℕ = λ e. record { use_of = record { place = place; path = e.0 }; tree = e.1 } in
      any-mapped node (λ (e : NodeOf ℕ). uses w i (is_use what) e && is_place e.use_of.place) (nodes b)
      ∙ beside (λ (e : Placed ℕ). uses w i (is_use what) (node e)) (is_place place) (nodes b)
      ∙ ap (λ (found : Bool). found && is_place place)
      (alike (λ (e : Placed ℕ). uses w i (is_use what) (node e)) (is_named (meaning given b home meta)) (nodes b)
      (λ e. option-alike (λ n. is_use what n (means_in w i place e.0 n)) (λ n. nat_eq (name_of what) n && is_meant what (meaning given b home meta e.0 n)) (name_used e.1)
      (λ n. ap (is_use what n) (is e.0 n) ∙ use-named given b home meta e.0 n))
      ∙ named-code given b home meta)
      ∙ and_comm (in_code s.names what (meaning given b home meta [] (name_of what)) b) (is_place place)

  -- the class of which do-its are read as methods
  abbrev home_of_doits : Option ℕ
  home_of_doits = option_map (λ (c : ClassOf ℕ). c.name) (find (λ (c : ClassOf ℕ). w.is_undefined_object c.name) i.classes)

  -- the uses
  abbrev pub uses_of : List Use
  uses_of = places (filter (uses w i (is_use what)) (image_nodes i))

  -- a use at one of the places that are asked is in code that is asked
  module _ (is_place : Place → Bool) (is_asked : EntryOf ℕ → Bool) (are_doits : Bool) (methods : (k : ℕ) (m : EntryOf ℕ) → slice_get i.methods k ≡ Some m → is_place (in_method k) ≡ is_asked m) (doits : (k : ℕ) → is_place (in_doit k) ≡ are_doits) where
    used-methods : list_any (λ (e : NodeOf ℕ). uses w i (is_use what) e && is_place e.use_of.place) (flat_map (λ (e : ℕ × EntryOf ℕ). nodes_of (in_method e.0) e.1.tree.body) (enumerate_from 0 i.methods))
        ≡ list_any (λ (m : EntryOf ℕ). is_asked m && asked.in_method s what m) i.methods
    used-methods =
        any-numbered (λ (e : NodeOf ℕ). uses w i (is_use what) e && is_place e.use_of.place) (λ k m. nodes_of (in_method k) m.tree.body) (λ (m : EntryOf ℕ). is_asked m && asked.in_method s what m) 0 i.methods
        (λ k n m e f.
        let here : n ≡ k = omega (arith, e) in
        let found : slice_get i.methods n ≡ Some m = ap (slice_get i.methods) here ∙ f in
        used-at is_place (in_method n) m.tree.arguments m.tree.body m.class m.meta (λ path x. ap (λ (o : Option (EntryOf ℕ)). option_map_or (λ (v : EntryOf ℕ). means w i v path x) o undeclared) found)
        ∙ ap (λ (b : Bool). b && asked.in_method s what m) (methods n m found))

    used-doits : list_any (λ (e : NodeOf ℕ). uses w i (is_use what) e && is_place e.use_of.place) (flat_map (λ (e : ℕ × DoItOf ℕ). nodes_of (in_doit e.0) e.1.body) (enumerate_from 0 i.doits))
        ≡ list_any (λ (d : DoItOf ℕ). are_doits && asked.in_doit s what d) i.doits
    used-doits =
        any-numbered (λ (e : NodeOf ℕ). uses w i (is_use what) e && is_place e.use_of.place) (λ k d. nodes_of (in_doit k) d.body) (λ (d : DoItOf ℕ). are_doits && asked.in_doit s what d) 0 i.doits
        (λ k n d e f.
        let here : n ≡ k = omega (arith, e) in
        let found : slice_get i.doits n ≡ Some d = ap (slice_get i.doits) here ∙ f in
        used-at is_place (in_doit n) [] d.body home_of_doits false (λ path x. ap (λ (o : Option (DoItOf ℕ)). option_map_or (λ (v : DoItOf ℕ). means_in_doit w i v path x) o undeclared) found)
        ∙ ap (λ (b : Bool). b && asked.in_doit s what d) (doits n))

    pub uses-found : list_any (λ (u : Use). is_place u.place) uses_of
        ≡ (list_any (λ (m : EntryOf ℕ). is_asked m && asked.in_method s what m) i.methods || list_any (λ (d : DoItOf ℕ). are_doits && asked.in_doit s what d) i.doits)
    uses-found =
        any-kept (λ (e : NodeOf ℕ). e.use_of) (uses w i (is_use what)) (λ (u : Use). is_place u.place) (image_nodes i)
        ∙ list_any-append (λ (e : NodeOf ℕ). uses w i (is_use what) e && is_place e.use_of.place) (flat_map (λ (e : ℕ × EntryOf ℕ). nodes_of (in_method e.0) e.1.tree.body) (enumerate_from 0 i.methods)) (flat_map (λ (e : ℕ × DoItOf ℕ). nodes_of (in_doit e.0) e.1.body) (enumerate_from 0 i.doits))
        ∙ (λ j. used-methods j || used-doits j)

  -- code in which a name means it has the name
  mentioned : (given : List ℕ) (b : SequenceOf ℕ) (home : Option ℕ) (meta : Bool) → in_code s.names what (meaning given b home meta [] (name_of what)) b ≡ true → list_any (λ (e : Placed ℕ). in_node way.Used (name_of what) e.1) (nodes b) ≡ true
  mentioned given b home meta e =
      weaker (is_named (meaning given b home meta)) (λ (p : Placed ℕ). in_node way.Used (name_of what) p.1) (nodes b)
      (λ p h. option-weaker (nat_eq (name_of what)) (λ n. is_meant what (meaning given b home meta p.0 n)) (name_used p.1) h)
      (named-code given b home meta ∙ e)

  -- the question for the name
  abbrev by_name : question.Question
  by_name = record { whose = whose.Everyone; what = way.Used; name = name_of what }

  pub method-mentions : (m : EntryOf ℕ) → asked.in_method s what m ≡ true → Contains (method_names m.tree) (name_of what)
  method-mentions m e = found-method i by_name m (mentioned m.tree.arguments m.tree.body m.class m.meta e)

  pub doit-mentions : (d : DoItOf ℕ) → asked.in_doit s what d ≡ true → Contains (code_names d.body) (name_of what)
  doit-mentions d e = found-doit by_name d (mentioned [] d.body home_of_doits false e)
