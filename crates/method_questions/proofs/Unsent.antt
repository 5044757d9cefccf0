-- A selector is sent nowhere where no code is found that sends it.
use Rattle.std.proofs.Common.{◌≡◌, ℕ, ◌+◌, Bool, true, false, not, cond, ◌||◌, List, [], ◌∷◌, map, filter, refl, ap, ◌∙◌}
use Rattle.std.specs.Prelude.{nat_eq}
use Rattle.std.specs.List.{list_any, flat_map, enumerate_from}
use Rattle.std.proofs.lemmas.List.Folds.{list_any-append}
use Rattle.tree_model.specs.Tree.{SequenceOf}
use Rattle.tree_model.specs.Nodes.{Placed, nodes}
use Rattle.scope_model.specs.Control.{is_empty}
use Rattle.image_model.specs.Image.{EntryOf, DoItOf, ImageOf}
use Rattle.image_model.specs.Words.{number_words}
use Rattle.image_model.specs.Nodes.{Place, in_method, in_doit, NodeOf, nodes_of, image_nodes}
use Rattle.image_model.specs.Uses.{is_sender}
use Rattle.code_questions.specs.declared.question.Way.TheVariants as way
use Rattle.code_questions.specs.declared.question.Whose.TheVariants as whose
use Rattle.code_questions.specs.Questions.{is_found}
use Rattle.code_questions.proofs.Witnesses.{any-mapped}
use Rattle.command_model.specs.MethodConditions.{is_sent_nowhere}

-- nothing passes
none-left : {X Y : Type 0} (f : X → Y) (p : X → Bool) (xs : List X) → is_empty (map f (filter p xs)) ≡ not (list_any p xs)
none-left f p [] = refl
none-left f p (x ∷ xs) = by (p x) (none-left f p xs)
  where
    by : (b : Bool) → is_empty (map f (filter p xs)) ≡ not (list_any p xs) → is_empty (map f (cond b (x ∷ filter p xs) (filter p xs))) ≡ not (b || list_any p xs)
    by true rest = refl
    by false rest = rest

module _ {X : Type 0} (place : ℕ → Place) (body : X → SequenceOf ℕ) (s : ℕ) where
  -- the nodes of numbered pieces of code
  pieces : (k : ℕ) (xs : List X) → list_any (λ (e : NodeOf ℕ). is_sender nat_eq s e.tree) (flat_map (λ e. nodes_of (place e.0) (body e.1)) (enumerate_from k xs))
      ≡ list_any (λ x. list_any (λ (e : Placed ℕ). is_sender nat_eq s e.1) (nodes (body x))) xs
  pieces k [] = refl
  pieces k (x ∷ xs) =
      list_any-append (λ (e : NodeOf ℕ). is_sender nat_eq s e.tree) (nodes_of (place k) (body x)) (flat_map (λ e. nodes_of (place e.0) (body e.1)) (enumerate_from (k + 1) xs))
      ∙ (λ i. any-mapped (λ (e : Placed ℕ). record { use_of = record { place = place k; path = e.0 }; tree = e.1 }) (λ (e : NodeOf ℕ). is_sender nat_eq s e.tree) (nodes (body x)) i || pieces (k + 1) xs i)

pub unsent : (names : List (List ℕ)) (i : ImageOf ℕ) (s : ℕ) → is_sent_nowhere (number_words names) i s ≡ not (is_found i (record { whose = whose.Everyone; what = way.Sent; name = s }))
unsent names i s =
    none-left (λ (e : NodeOf ℕ). e.use_of) (λ (e : NodeOf ℕ). is_sender nat_eq s e.tree) (image_nodes i)
    ∙ ap not (list_any-append (λ (e : NodeOf ℕ). is_sender nat_eq s e.tree) (flat_map (λ e. nodes_of (in_method e.0) e.1.tree.body) (enumerate_from 0 i.methods)) (flat_map (λ e. nodes_of (in_doit e.0) e.1.body) (enumerate_from 0 i.doits))
    ∙ (λ k. pieces in_method (λ (m : EntryOf ℕ). m.tree.body) s 0 i.methods k || pieces in_doit (λ (d : DoItOf ℕ). d.body) s 0 i.doits k))
