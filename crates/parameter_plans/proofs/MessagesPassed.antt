-- A loop in which messages pass other arguments, one after the other.
use Rattle.std.proofs.Common.{◌≡◌, ℕ, ◌+◌, ◌<◌, ◌≤◌, Bool, true, false, List, ◌∷◌, length, get_or, take, drop, sym, ap, ◌∙◌, arith}
use Rattle.std.specs.Prelude.{nat_eq, if◌then◌else◌}
use Rattle.std.proofs.Math.ListN.{set, drop_of_length-le}
use Rattle.std.proofs.lemmas.List.{take_more_set, drop-set-lt, take_all}
use Rattle.tree_model.specs.Tree.{trees_of, more_messages}
use Rattle.st_tree.specs.View.{messages_of}
use Rattle.st_tree.specs.declared.tree.Message.{Message}
use Rattle.renamed_code.proofs.Loops.{onto, one_more, put_message, onto-messages}
use Rattle.parameter_plans.specs.declared.given.ParameterChange.{ParameterChange}
use Rattle.parameter_plans.specs.Given.{selector_before, selector_after, passed_after, messages_after}

module _ (p : ParameterChange) where
  -- a message of the selector, and one of another selector
  message-passed : (m z : Message) (ms : List Message) → nat_eq (selector_before p) m.selector ≡ true → z.selector ≡ selector_after p → trees_of z.arguments ≡ passed_after p (trees_of m.arguments)
      → messages_after p (messages_of (m ∷ ms)) ≡ put_message z (messages_after p (messages_of ms))
  message-passed m z ms same to args =
      ap (λ (b : Bool). if b then more_messages (selector_after p) (passed_after p (trees_of m.arguments)) (messages_after p (messages_of ms)) else more_messages m.selector (trees_of m.arguments) (messages_after p (messages_of ms))) same
      ∙ (λ i. more_messages (sym to i) (sym args i) (messages_after p (messages_of ms)))

  message-kept : (m : Message) (ms : List Message) → nat_eq (selector_before p) m.selector ≡ false → messages_after p (messages_of (m ∷ ms)) ≡ put_message m (messages_after p (messages_of ms))
  message-kept m ms other =
      ap (λ (b : Bool). if b then more_messages (selector_after p) (passed_after p (trees_of m.arguments)) (messages_after p (messages_of ms)) else more_messages m.selector (trees_of m.arguments) (messages_after p (messages_of ms))) other

  -- those before a number are changed
  abbrev pub ArePassed : ℕ → List Message → List Message → Type 0
  ArePassed i now all = onto put_message (take i now) (messages_after p (messages_of (drop i now))) ≡ messages_after p (messages_of all)

  next : (i : ℕ) (now after all : List Message) (m z : Message) → i < length now → m ≡ get_or now i m → after ≡ set now i z
      → messages_after p (messages_of (m ∷ drop (i + 1) now)) ≡ put_message z (messages_after p (messages_of (drop (i + 1) now)))
      → ArePassed i now all → ArePassed (i + 1) after all
  next i now after all m z lt is put step before =
      ap (λ (ms : List Message). onto put_message (take (i + 1) ms) (messages_after p (messages_of (drop (i + 1) ms)))) put
      ∙ ap (λ (ms : List Message). onto put_message (take (i + 1) (set now i z)) (messages_after p (messages_of ms))) (drop-set-lt (i + 1) now i z (omega arith))
      ∙ one_more put_message (λ n ms. messages_after p (messages_of ms)) (take i now) (take (i + 1) (set now i z)) m z 0 0 i now (messages_after p (messages_of all)) lt is (take_more_set now i z lt) step before

  pub next-passed : (i : ℕ) (now after all : List Message) (m z : Message) → i < length now → m ≡ get_or now i m → after ≡ set now i z
      → nat_eq (selector_before p) m.selector ≡ true → z.selector ≡ selector_after p → trees_of z.arguments ≡ passed_after p (trees_of m.arguments) → ArePassed i now all → ArePassed (i + 1) after all
  next-passed i now after all m z lt is put same to args before = next i now after all m z lt is put (message-passed m z (drop (i + 1) now) same to args) before

  pub next-kept : (i : ℕ) (now after all : List Message) (m z : Message) → i < length now → m ≡ get_or now i m → z ≡ get_or now i m → after ≡ set now i z → nat_eq (selector_before p) m.selector ≡ false → ArePassed i now all → ArePassed (i + 1) after all
  next-kept i now after all m z lt is stays put other before =
      next i now after all m m lt is (put ∙ ap (set now i) (stays ∙ sym is)) (message-kept m (drop (i + 1) now) other) before

  -- all are changed
  pub passed-all : (i : ℕ) (now all : List Message) → length now ≤ i → ArePassed i now all → messages_of now ≡ messages_after p (messages_of all)
  passed-all i now all end before =
      sym (onto-messages now) ∙ (λ j. onto put_message (sym (take_all i now end) j) (messages_after p (messages_of (sym (drop_of_length-le now end) j)))) ∙ before
