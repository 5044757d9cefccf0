-- Code that answers a question on a name mentions the name.
use Rattle.std.proofs.Common.{◌≡◌, ◌⊎◌, inl, inr, ℕ, ◌&&◌, ◌||◌, Bool, true, false, List, [], ◌∷◌, ◌++◌, Option, None, Some, refl, sym, ap, ◌∙◌, true≢false}
use Rattle.std.specs.Prelude.{Contains, nat_eq}
use Rattle.std.specs.List.{list_any, flat_map}
use Rattle.std.specs.Option.{option_map_or}
use Rattle.std.proofs.lemmas.Bool.{or_cases, and_parts}
use Rattle.std.proofs.lemmas.Map.Views.{Contains-from_any}
use Rattle.std.proofs.lemmas.List.Elements.{Contains-append_left, Contains-append_right}
use Rattle.tree_model.specs.Tree.{TreeOf, var, literal, send, cascade, assign, block, brace, return, SequenceOf, MethodOf}
use Rattle.tree_model.specs.Nodes.{Placed, nodes}
use Rattle.image_model.specs.Image.{EntryOf, DoItOf, ImageOf}
use Rattle.image_model.specs.Uses.{name_used, is_sender}
use Rattle.image_model.proofs.Ends.{place-contains}
use Rattle.rename_model.specs.NamesThere.{declared_by, is_named_by}
use Rattle.mentions.specs.Mentions.{own_names, trees_of_nodes, code_names, method_names}
use Rattle.mentions.proofs.Lists.{Contains-first, Contains-later}
use Rattle.mentions.proofs.Listed.{listed-own, listed-in_method, own-used, own-sent}
use Rattle.class_table.proofs.Live.{eqb-equal}
use Rattle.code_questions.specs.declared.question.Question.{Question}
use Rattle.code_questions.specs.declared.question.Way.{Way}
use Rattle.code_questions.specs.declared.question.Way.TheVariants as way
use Rattle.code_questions.specs.Questions.{are_doits_asked, is_asked, in_head, in_temporaries, in_node, in_body, in_method, is_method_found, is_doit_found}
use Rattle.code_questions.proofs.Witnesses.{passing}

module _ (n : ℕ) where
  -- a name that is among names
  among : (ns : List ℕ) → list_any (nat_eq n) ns ≡ true → Contains ns n
  among ns e = Contains-from_any eqb-equal n ns e

  -- what a node reads or assigns stands in it
  own-name : (t : TreeOf ℕ) → option_map_or (nat_eq n) (name_used t) false ≡ true → Contains (own_names t) n
  own-name t = by (name_used t) refl
    where
      by : (o : Option ℕ) → name_used t ≡ o → option_map_or (nat_eq n) o false ≡ true → Contains (own_names t) n
      by None q e = absurd (true≢false (sym e))
      by (Some m) q e = own-used t n (q ∙ ap Some (sym (eqb-equal n m e)))

  -- what it declares too
  own-declaration : (t : TreeOf ℕ) → list_any (nat_eq n) (declared_by t) ≡ true → Contains (own_names t) n
  own-declaration (var m) e = absurd (true≢false (sym e))
  own-declaration (literal l) e = absurd (true≢false (sym e))
  own-declaration (send r s args) e = absurd (true≢false (sym e))
  own-declaration (cascade r ms) e = absurd (true≢false (sym e))
  own-declaration (assign m t) e = absurd (true≢false (sym e))
  own-declaration (block ps ts ss c) e = among (ps ++ ts) e
  own-declaration (brace ts) e = absurd (true≢false (sym e))
  own-declaration (return t) e = absurd (true≢false (sym e))

  -- a node that answers has the name
  own-found : (how : Way) (t : TreeOf ℕ) → in_node how n t ≡ true → Contains (own_names t) n
  own-found way.Named t e = by (or_cases (option_map_or (nat_eq n) (name_used t) false) (list_any (nat_eq n) (declared_by t)) e)
    where
      by : (option_map_or (nat_eq n) (name_used t) false ≡ true) ⊎ (list_any (nat_eq n) (declared_by t) ≡ true) → Contains (own_names t) n
      by (inl h) = own-name t h
      by (inr h) = own-declaration t h
  own-found way.Used t e = own-name t e
  own-found way.Sent t e = own-sent nat_eq eqb-equal t n e
  own-found way.Selector t e = absurd (true≢false (sym e))
  own-found way.Spoken t e = own-sent nat_eq eqb-equal t n e

  temporaries-found : (how : Way) (ts : List ℕ) → in_temporaries how n ts ≡ true → Contains ts n
  temporaries-found way.Named ts e = among ts e
  temporaries-found way.Used ts e = absurd (true≢false (sym e))
  temporaries-found way.Sent ts e = absurd (true≢false (sym e))
  temporaries-found way.Selector ts e = absurd (true≢false (sym e))
  temporaries-found way.Spoken ts e = absurd (true≢false (sym e))

  head-found : (how : Way) (m : MethodOf ℕ) → in_head how n m ≡ true → Contains (method_names m) n
  head-found way.Named m e = Contains-later m.selector n (m.arguments ++ code_names m.body) (Contains-append_left m.arguments (code_names m.body) n (among m.arguments e))
  head-found way.Used m e = absurd (true≢false (sym e))
  head-found way.Sent m e = absurd (true≢false (sym e))
  head-found way.Selector m e = Contains-first m.selector n (m.arguments ++ code_names m.body) (sym (eqb-equal n m.selector e))
  head-found way.Spoken m e = Contains-first m.selector n (m.arguments ++ code_names m.body) (sym (eqb-equal n m.selector e))

  -- a sequence that answers mentions the name
  body-found : (how : Way) (b : SequenceOf ℕ) → in_body how n b ≡ true → Contains (code_names b) n
  body-found how b e = by (or_cases (in_temporaries how n b.temporaries) (list_any (λ (p : Placed ℕ). in_node how n p.1) (nodes b)) e)
    where
      by : (in_temporaries how n b.temporaries ≡ true) ⊎ (list_any (λ (p : Placed ℕ). in_node how n p.1) (nodes b) ≡ true) → Contains (code_names b) n
      by (inl h) = Contains-append_left b.temporaries (flat_map own_names (trees_of_nodes (nodes b))) n (temporaries-found how b.temporaries h)
      by (inr h) =
          let w = passing (λ (p : Placed ℕ). in_node how n p.1) (nodes b) h in
          listed-own b w.1.0 w.1.1 n (place-contains (nodes b) w.0 w.1 w.2) (own-found how w.1.1 w.3)

  -- so does a method
  method-found : (how : Way) (m : MethodOf ℕ) → in_method how n m ≡ true → Contains (method_names m) n
  method-found how m e = by (or_cases (in_head how n m) (in_body how n m.body) e)
    where
      by : (in_head how n m ≡ true) ⊎ (in_body how n m.body ≡ true) → Contains (method_names m) n
      by (inl h) = head-found how m h
      by (inr h) = listed-in_method m n (body-found how m.body h)

-- a method or a do-it that is asked and answers
pub found-method : (i : ImageOf ℕ) (q : Question) (m : EntryOf ℕ) → is_method_found i q m ≡ true → Contains (method_names m.tree) q.name
found-method i q m e = method-found q.name q.what m.tree (and_parts (is_asked i q.whose m) (in_method q.what q.name m.tree) e).1

pub found-doit : (q : Question) (d : DoItOf ℕ) → is_doit_found q d ≡ true → Contains (code_names d.body) q.name
found-doit q d e = body-found q.name q.what d.body (and_parts (are_doits_asked q.whose) (in_body q.what q.name d.body) e).1
