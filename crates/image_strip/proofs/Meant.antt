-- The classes that code means are those that its free names mean outside all blocks.
use Rattle.std.proofs.Common.{◌≡◌, ℕ, ◌&&◌, ◌||◌, Bool, true, false, List, [], Option, None, Some, refl, sym, ap, ◌∙◌, true≢false}
use Rattle.std.specs.Prelude.{nat_eq}
use Rattle.std.specs.List.{list_any, list_all, flat_map}
use Rattle.std.specs.Option.{option_map_or}
use Rattle.std.proofs.Math.Bool.{and_comm}
use Rattle.std.proofs.lemmas.Bool.{eqb-true}
use Rattle.tree_model.specs.Tree.{SequenceOf}
use Rattle.tree_model.specs.Nodes.{Placed, nodes}
use Rattle.scope_model.specs.NameTests.{is_pseudo_in}
use Rattle.scope_model.specs.FreeNames.{free_in_statements, free_names_of_run}
use Rattle.scope_model.specs.Scope.{ScopeOf}
use Rattle.image_model.specs.Image.{ImageOf}
use Rattle.image_model.specs.Words.{WordsOf, number_words}
use Rattle.image_model.specs.Chain.{chain}
use Rattle.image_model.specs.Means.{MeaningOf, pseudo, argument, temporary, variable, a_class, transcript, undeclared, means_outside}
use Rattle.image_model.specs.Uses.{name_used, is_that_class}
use Rattle.strip_model.specs.Reach.{class_meant, if_named, node_means, code_means}
use Rattle.strip_model.proofs.Listed.{all-member, all-members}
use Rattle.class_table.specs.Slots.{Slots}
use Rattle.class_table.specs.View.{number_image}
use Rattle.class_table.proofs.Live.{eqb-refl, eqb-equal}
use Rattle.code_questions.proofs.Witnesses.{same-truth}
use Rattle.use_questions.proofs.Free.{once-any}
use Rattle.use_questions.proofs.Tests.{alike, beside}
use Rattle.use_questions.proofs.Meanings.{IsOfGlobals, meaning_at, passes-outside, used-free, class-name}
use Rattle.image_strip.specs.Code.{AreMeant}
use Rattle.image_strip.proofs.Alls.{no-more}
use Rattle.image_strip.proofs.Marked.{any-flat}

-- a test that implies another one, beside that one
implied : (a b : Bool) → (b ≡ true → a ≡ true) → b ≡ (a && b)
implied true b h = refl
implied false true h = absurd (true≢false (sym (h refl)))
implied false false h = refl

-- a class among those that are meant
one-meant : (x : ℕ) (m : MeaningOf ℕ) → list_any (nat_eq x) (class_meant m) ≡ is_that_class nat_eq x m
one-meant x pseudo = refl
one-meant x (argument scope) = refl
one-meant x (temporary scope) = refl
one-meant x (variable kind c) = refl
one-meant x (a_class c) = by (nat_eq x c)
  where
    by : (b : Bool) → (b || false) ≡ b
    by true = refl
    by false = refl
one-meant x transcript = refl
one-meant x undeclared = refl

-- two lists with the same members
same-members : (xs ys : List ℕ) → ((x : ℕ) → list_any (nat_eq x) xs ≡ list_any (nat_eq x) ys) → (p : ℕ → Bool) → list_all p xs ≡ list_all p ys
same-members xs ys same p =
    same-truth (list_all p xs) (list_all p ys)
    (λ h. all-members nat_eq eqb-refl p ys (λ n e. all-member nat_eq eqb-equal p xs n h (same n ∙ e)))
    (λ h. all-members nat_eq eqb-refl p xs (λ n e. all-member nat_eq eqb-equal p ys n h (sym (same n) ∙ e)))

module _ (s : Slots) (given : List ℕ) (b : SequenceOf ℕ) (home : Option ℕ) (meta : Bool) where
  abbrev w : WordsOf ℕ
  w = number_words s.names

  abbrev i : ImageOf ℕ
  i = number_image s

  abbrev scope : ScopeOf ℕ
  scope = record { arguments = given; temporaries = b.temporaries; statements = b.statements }

  -- what names mean
  abbrev at : List ℕ → ℕ → MeaningOf ℕ
  at = meaning_at (is_pseudo_in s.names) scope (means_outside w i home meta)

  abbrev free : List ℕ
  free = free_names_of_run nat_eq (is_pseudo_in s.names) b.statements

  abbrev meant : List ℕ
  meant = flat_map (λ n. class_meant (at [] n)) free

  module _ (x : ℕ) where
    abbrev is : MeaningOf ℕ → Bool
    is m = is_that_class nat_eq x m

    globals : IsOfGlobals is
    globals = record { no_pseudo = refl; no_argument = λ scope. refl; no_temporary = λ scope. refl }

    own-name : (path : List ℕ) (n : ℕ) → list_any (nat_eq x) (class_meant (at path n)) ≡ (nat_eq x n && is (at path n))
    own-name path n =
        one-meant x (at path n)
        ∙ implied (nat_eq x n) (is (at path n)) (λ e. class-name s.names i.classes (chain nat_eq i.classes home) meta x n (passes-outside (is_pseudo_in s.names) is globals scope (means_outside w i home meta) path n e))

    in-node : (path : List ℕ) (o : Option ℕ) → list_any (nat_eq x) (flat_map (λ n. class_meant (at path n)) (if_named o)) ≡ option_map_or (λ n. nat_eq x n && is (at path n)) o false
    in-node path None = refl
    in-node path (Some n) = ap (list_any (nat_eq x)) (no-more (class_meant (at path n))) ∙ own-name path n

    at-name : (n : ℕ) → (nat_eq x n && is (at [] n)) ≡ (nat_eq x n && is (at [] x))
    at-name n = by (nat_eq x n) refl
      where
        by : (t : Bool) → nat_eq x n ≡ t → (t && is (at [] n)) ≡ (t && is (at [] x))
        by true e = ap (λ (k : ℕ). is (at [] k)) (sym (eqb-true x n e))
        by false e = refl

    in-nodes : list_any (nat_eq x) (code_means (at, b)) ≡ (is (at [] x) && list_any (nat_eq x) (free_in_statements nat_eq (is_pseudo_in s.names) b.statements))
    in-nodes =
        any-flat (nat_eq x) (node_means at) (nodes b)
        ∙ alike (λ (e : Placed ℕ). list_any (nat_eq x) (node_means at e)) (λ (e : Placed ℕ). option_map_or (λ n. nat_eq x n && is (at e.0 n)) (name_used e.1) false) (nodes b) (λ e. in-node e.0 (name_used e.1))
        ∙ used-free (is_pseudo_in s.names) is globals scope (means_outside w i home meta) x

    in-free : list_any (nat_eq x) meant ≡ (list_any (nat_eq x) free && is (at [] x))
    in-free =
        any-flat (nat_eq x) (λ n. class_meant (at [] n)) free
        ∙ alike (λ n. list_any (nat_eq x) (class_meant (at [] n))) (λ n. nat_eq x n && is (at [] x)) free (λ n. own-name [] n ∙ at-name n)
        ∙ beside (nat_eq x) (is (at [] x)) free

    members : list_any (nat_eq x) meant ≡ list_any (nat_eq x) (code_means (at, b))
    members =
        in-free
        ∙ ap (λ (t : Bool). t && is (at [] x)) (once-any x (free_in_statements nat_eq (is_pseudo_in s.names) b.statements))
        ∙ and_comm (list_any (nat_eq x) (free_in_statements nat_eq (is_pseudo_in s.names) b.statements)) (is (at [] x))
        ∙ sym in-nodes

  pub are-meant : (classes : List ℕ) → classes ≡ meant → AreMeant (at, b) classes
  are-meant classes e p = ap (list_all p) e ∙ same-members meant (code_means (at, b)) members p
