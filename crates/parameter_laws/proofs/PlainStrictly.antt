-- Plain arguments that are not `thisContext`: what is plain in code that does not name it.
use Rattle.std.proofs.Common.{◌≡◌, ℕ, suc, ◌+◌, List, [], ◌∷◌, ◌++◌, Option, Some, None, refl, ap, ◌∙◌}
use Rattle.std.specs.Prelude.{Bool, true, false, not, ◌&&◌, if◌then◌else◌, option_and_then, codes}
use Rattle.std.specs.List.{list_all}
use Rattle.std.specs.Option.{option_map_or}
use Rattle.std.proofs.lemmas.Option.{none-some}
use Rattle.rb_base.specs.Names.{text_eq}
use Rattle.tree_model.specs.Tree.{TreeOf, var, literal, send, cascade, assign, block, brace, return, TreesOf, MessagesOf, no_messages, more_messages, SequenceOf}
use Rattle.tree_model.specs.Path.{count, nth, all_arguments, child, part_at, part_in}
use Rattle.image_model.specs.Image.{ImageOf}
use Rattle.image_model.specs.Means.{MeaningOf}
use Rattle.image_model.specs.Nodes.{NodeOf, means_in}
use Rattle.image_model.specs.Words.{text_words}
use Rattle.run_model.specs.Values.{Name}
use Rattle.run_model.proofs.Finite.{and-true_left, and-true_right}
use Rattle.resolved_model.proofs.ResolvingLemmas.{nth-left, nth-right}
use Rattle.command_model.specs.Asked.{text_asked}
use Rattle.command_model.specs.Plain.{is_atom_literal}
use Rattle.command_model.specs.ParameterConditions.{is_declared, may_be_dropped, passed_by}

-- whether a node is an atom literal or a name that is neither undeclared nor `thisContext`
abbrev pub is_plain_tree : (Name → MeaningOf Name) → TreeOf Name → Bool
is_plain_tree mean (var n) = is_declared (mean n) && not (text_eq n (codes "thisContext"))
is_plain_tree mean (literal l) = is_atom_literal l
is_plain_tree mean (send r u ts) = false
is_plain_tree mean (cascade r ms) = false
is_plain_tree mean (assign n t) = false
is_plain_tree mean (block ps ts ss e) = false
is_plain_tree mean (brace ts) = false
is_plain_tree mean (return t) = false

-- by the number of the argument, counted from 0
module _ (s : Name) (k : ℕ) where
  -- whether such a node is among arguments
  abbrev pub passes_plain : (Name → MeaningOf Name) → TreesOf Name → Bool
  passes_plain mean args = option_map_or (is_plain_tree mean) (nth args k) false

  -- whether each message of the selector that a node sends passes one
  abbrev pub node_plain : (Name → MeaningOf Name) → TreeOf Name → Bool
  node_plain mean u = list_all (passes_plain mean) (passed_by text_eq s u)

-- a name that is not `thisContext`
abbrev pub IsOther : Name → Type 0
IsOther n = not (text_eq n (codes "thisContext")) ≡ true

-- at a node of an image
module _ (i : ImageOf Name) (e : NodeOf Name) where
  -- what names mean there
  abbrev mean : Name → MeaningOf Name
  mean n = means_in text_words i e.use_of.place e.use_of.path n

  -- what may be dropped
  abbrev may_drop : TreeOf Name → Bool
  may_drop t = may_be_dropped text_asked i e t

  there-strict : (o : Option (TreeOf Name)) → ((n : Name) → o ≡ Some (var n) → IsOther n) → option_map_or may_drop o false ≡ true → option_map_or (is_plain_tree mean) o false ≡ true
  there-strict None h q = q
  there-strict (Some (var n)) h q = λ z. q z && h n refl z
  there-strict (Some (literal l)) h q = q
  there-strict (Some (send r u ts)) h q = q
  there-strict (Some (cascade r ms)) h q = q
  there-strict (Some (assign n t)) h q = q
  there-strict (Some (block ps ts ss n)) h q = q
  there-strict (Some (brace ts)) h q = q
  there-strict (Some (return t)) h q = q

  module _ (s : Name) (k : ℕ) where
    -- whether arguments have one that may be dropped
    abbrev drops : TreesOf Name → Bool
    drops args = option_map_or may_drop (nth args k) false

    -- one message in front of others, by whether it is one of the selector
    one-strict : (args : TreesOf Name) (rest : List (TreesOf Name)) (b : Bool) → ((n : Name) → nth args k ≡ Some (var n) → IsOther n) → (list_all drops rest ≡ true → list_all (passes_plain s k mean) rest ≡ true) →
        list_all drops (if b then args ∷ rest else rest) ≡ true → list_all (passes_plain s k mean) (if b then args ∷ rest else rest) ≡ true
    one-strict args rest true h next q =
        let first = there-strict (nth args k) h (and-true_left (drops args) (list_all drops rest) q) in
        let others = next (and-true_right (drops args) (list_all drops rest) q) in
        λ z. first z && others z
    one-strict args rest false h next q = next q

    -- the messages of a cascade
    messages-strict : (r : TreeOf Name) (ms : MessagesOf Name) → ((j : ℕ) (n : Name) → nth (all_arguments ms) j ≡ Some (var n) → IsOther n) →
        list_all drops (passed_by text_eq s (cascade r ms)) ≡ true → list_all (passes_plain s k mean) (passed_by text_eq s (cascade r ms)) ≡ true
    messages-strict r no_messages h q = refl
    messages-strict r (more_messages u args ms) h q =
        one-strict args (passed_by text_eq s (cascade r ms)) (text_eq s u) (λ n p. h k n (nth-left args (all_arguments ms) k (var n) p))
        (messages-strict r ms (λ j n p. h (count args + j) n (nth-right args (all_arguments ms) j ∙ p))) q

    -- a node none of whose children is `thisContext`
    pub node-strict : (u : TreeOf Name) → ((j : ℕ) (n : Name) → child u j ≡ Some (var n) → IsOther n) → list_all drops (passed_by text_eq s u) ≡ true → node_plain s k mean u ≡ true
    node-strict (var n) h q = refl
    node-strict (literal l) h q = refl
    node-strict (send r u args) h q = one-strict args [] (text_eq s u) (λ n p. h (suc k) n p) (λ p. refl) q
    node-strict (cascade r ms) h q = messages-strict r ms (λ j n p. h (suc j) n p) q
    node-strict (assign n t) h q = refl
    node-strict (block ps ts ss n) h q = refl
    node-strict (brace ts) h q = refl
    node-strict (return t) h q = refl

-- the same thing
same-there : (t u : TreeOf Name) → Some t ≡ Some u → t ≡ u
same-there t u q = cc

-- one step on from where a path leads
step-on : (ks : List ℕ) (u c : TreeOf Name) (j : ℕ) (o : Option (TreeOf Name)) → option_and_then (λ d. part_at d ks) o ≡ Some u → ((d : TreeOf Name) → part_at d ks ≡ Some u → part_at d (ks ++ j ∷ []) ≡ Some c) → option_and_then (λ d. part_at d (ks ++ j ∷ [])) o ≡ Some c
step-on ks u c j None e h = absurd (none-some u e)
step-on ks u c j (Some d) e h = h d e

part-on : (path : List ℕ) (t u c : TreeOf Name) (j : ℕ) → child u j ≡ Some c → part_at t path ≡ Some u → part_at t (path ++ j ∷ []) ≡ Some c
part-on [] t u c j h e = ap (λ x. option_and_then (λ d. Some d) (child x j)) (same-there t u e) ∙ ap (option_and_then (λ d. Some d)) h
part-on (k ∷ ks) t u c j h e = step-on ks u c j (child t k) e (λ d q. part-on ks d u c j h q)

pub part_in-on : (b : SequenceOf Name) (path : List ℕ) (u c : TreeOf Name) (j : ℕ) → child u j ≡ Some c → part_in b path ≡ Some u → part_in b (path ++ j ∷ []) ≡ Some c
part_in-on b [] u c j h e = absurd (none-some u e)
part_in-on b (k ∷ ks) u c j h e = step-on ks u c j _ e (λ d q. part-on ks d u c j h q)
