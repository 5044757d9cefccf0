-- A tree with a part at a path becomes that with another part there.
use Rattle.std.proofs.Common.{◌≡◌, ℕ, zero, suc, ◌+◌, ◌-◌, List, [], ◌∷◌, Option, Some, None, refl, sym, ap, ◌∙◌, subst}
use Rattle.std.specs.Prelude.{Bool, true, false, ◌&&◌, ◌==◌, if◌then◌else◌, nat_lt, option_map, unwrap_or}
use Rattle.tree_model.specs.Tree.{TreeOf, var, literal, send, cascade, assign, block, brace, return, TreesOf, no_trees, more_trees, MessagesOf, no_messages, more_messages, StatementsOf, no_statements, more_statements}
use Rattle.tree_model.specs.Path.{append, count, nth, all_arguments, statement_trees, children, child, with_nth, with_statement, with_argument, with_child, replaced, statements_replaced}
use Rattle.scope_model.specs.declared.local.ControlForm.{ControlForm}
use Rattle.scope_model.specs.declared.local.ControlForm.TheVariants.{OneBlock, TwoBlocks, Loop, NoControl}
use Rattle.scope_model.specs.Control.{is_plain_block, are_plain_blocks, meets, is_control}
use Rattle.scope_model.specs.SpecialNames.{control_form}
use Rattle.image_model.specs.ImageNames.{OptionNames}
use Rattle.run_model.specs.Values.{Name}
use Rattle.resolved_model.specs.Environments.{Declared, opened}
use Rattle.unfolded_calls.specs.SendsOnly.{SendsOnly, AllSendOnly, MessagesOnly, StatementsSendOnly}
use Rattle.unfolded_places.specs.Becoming.{MakesNoControl, Becomes, at_part, at_literal, in_send, in_cascade, in_assign, in_block, in_brace, in_return, BecomeAll, all_none, all_more, BecomeMessages, messages_none, messages_more, BecomeLines, lines_none, lines_more}
use Rattle.unfolded_places.specs.PartsReplaced.{same_name, other_part, parts_stored, declared_inside, declared_round, declared_among, StaysMessage, StaysMessageAmong}
use Rattle.unfolded_places.proofs.Unchanged.{tree-stays, trees-stay, messages-stay, lines-stay}

-- what holds of the selectors in trees holds of those in each of them
module _ (P : Name → Type 0) where
  sends-append : (ts us : TreesOf Name) → AllSendOnly P ts → AllSendOnly P us → AllSendOnly P (append ts us)
  sends-append no_trees us a b = b
  sends-append (more_trees t ts) us a b = (a.0, sends-append ts us a.1 b)

  sends-arguments : (ms : MessagesOf Name) → MessagesOnly P ms → AllSendOnly P (all_arguments ms)
  sends-arguments no_messages a = tt
  sends-arguments (more_messages s args ms) a = sends-append args (all_arguments ms) a.1 (sends-arguments ms a.2)

  pub sends-statements : (ss : StatementsOf Name) → StatementsSendOnly P ss → AllSendOnly P (statement_trees ss)
  sends-statements no_statements a = tt
  sends-statements (more_statements c t ss) a = (a.0, sends-statements ss a.1)

  pub sends-children : (t : TreeOf Name) → SendsOnly P t → AllSendOnly P (children t)
  sends-children (var n) a = tt
  sends-children (literal l) a = tt
  sends-children (send r s args) a = (a.1, a.2)
  sends-children (cascade r ms) a = (a.0, sends-arguments ms a.1)
  sends-children (assign n t) a = (a, tt)
  sends-children (block ps ts ss e) a = sends-statements ss a
  sends-children (brace ts) a = a
  sends-children (return t) a = (a, tt)

  pub sends-nth : (ts : TreesOf Name) (k : ℕ) (c : TreeOf Name) → AllSendOnly P ts → nth ts k ≡ Some c → SendsOnly P c
  sends-nth no_trees k c a e = absurd (cc)
  sends-nth (more_trees t ts) zero c a e = subst (SendsOnly P) (some e) a.0
    where
      some : {x y : TreeOf Name} → Some x ≡ Some y → x ≡ y
      some z = cc
  sends-nth (more_trees t ts) (suc k) c a e = sends-nth ts k c a.1 e

-- blocks among trees, whichever of two trees that are both blocks or both none stands at a number
count-nth : (ts : TreesOf Name) (k : ℕ) (x y : TreeOf Name) → count (with_nth ts k x) ≡ count (with_nth ts k y)
count-nth no_trees k x y = refl
count-nth (more_trees t ts) zero x y = refl
count-nth (more_trees t ts) (suc k) x y = ap (λ n. n + 1) (count-nth ts k x y)

blocks-nth : (ts : TreesOf Name) (k : ℕ) (x y : TreeOf Name) → is_plain_block x ≡ is_plain_block y → are_plain_blocks (with_nth ts k x) ≡ are_plain_blocks (with_nth ts k y)
blocks-nth no_trees k x y e = refl
blocks-nth (more_trees t ts) zero x y e = ap (λ b. b && are_plain_blocks ts) e
blocks-nth (more_trees t ts) (suc k) x y e = ap (λ b. is_plain_block t && b) (blocks-nth ts k x y e)

pub meets-same : (form : ControlForm) (r r' : TreeOf Name) (args args' : TreesOf Name) → is_plain_block r ≡ is_plain_block r' → count args ≡ count args' → are_plain_blocks args ≡ are_plain_blocks args' → meets form r args ≡ meets form r' args'
meets-same OneBlock r r' args args' p q h = λ i. q i == 1 && h i
meets-same TwoBlocks r r' args args' p q h = λ i. q i == 2 && h i
meets-same Loop r r' args args' p q h = λ i. p i && (q i == 1 && h i)
meets-same NoControl r r' args args' p q h = refl

-- a node stays a control send, or stays none
pub control-child : (t : TreeOf Name) (k : ℕ) (x y : TreeOf Name) → is_plain_block x ≡ is_plain_block y → is_control control_form (with_child t k x) ≡ is_control control_form (with_child t k y)
control-child (var n) k x y e = refl
control-child (literal l) k x y e = refl
control-child (send r s args) zero x y e = meets-same (control_form s) x y args args e refl refl
control-child (send r s args) (suc k) x y e = meets-same (control_form s) r r (with_nth args k x) (with_nth args k y) refl (count-nth args k x y) (blocks-nth args k x y e)
control-child (cascade r ms) zero x y e = refl
control-child (cascade r ms) (suc k) x y e = refl
control-child (assign n t) zero x y e = refl
control-child (assign n t) (suc k) x y e = refl
control-child (block ps ts ss n) k x y e = refl
control-child (brace ts) k x y e = refl
control-child (return t) zero x y e = refl
control-child (return t) (suc k) x y e = refl

-- a node is a block as before
block-child : (t : TreeOf Name) (k : ℕ) (x y : TreeOf Name) → is_plain_block (with_child t k x) ≡ is_plain_block (with_child t k y)
block-child (var n) k x y = refl
block-child (literal l) k x y = refl
block-child (send r s args) zero x y = refl
block-child (send r s args) (suc k) x y = refl
block-child (cascade r ms) zero x y = refl
block-child (cascade r ms) (suc k) x y = refl
block-child (assign n t) zero x y = refl
block-child (assign n t) (suc k) x y = refl
block-child (block ps ts ss n) k x y = refl
block-child (brace ts) k x y = refl
block-child (return t) zero x y = refl
block-child (return t) (suc k) x y = refl

pub block-replaced : (t : TreeOf Name) (k : ℕ) (ks : List ℕ) (v u : TreeOf Name) → is_plain_block (replaced t (k ∷ ks) v) ≡ is_plain_block (replaced t (k ∷ ks) u)
block-replaced t k ks v u = by (child t k)
  where
    by : (o : Option (TreeOf Name)) → is_plain_block (unwrap_or (option_map (λ c. with_child t k (replaced c ks v)) o) t) ≡ is_plain_block (unwrap_or (option_map (λ c. with_child t k (replaced c ks u)) o) t)
    by (Some c) = block-child t k (replaced c ks v) (replaced c ks u)
    by None = refl

module _ (here : List Declared → TreeOf Name → TreeOf Name → Type 0) (stores : List Declared → Name → Name → Type 0) (gone : Name → Bool) where
  abbrev Kept : Name → Type 0
  Kept s = gone s ≡ false

  abbrev Changes : List Declared → TreeOf Name → TreeOf Name → Type 0
  Changes A t u = Becomes (parts_stored here stores gone) A A t u

  nth-becomes : (A : List Declared) (ts : TreesOf Name) (k : ℕ) (x y : TreeOf Name) → AllSendOnly Kept ts → Changes A x y → BecomeAll (parts_stored here stores gone) A A (with_nth ts k x) (with_nth ts k y)
  nth-becomes A no_trees k x y a p = all_none
  nth-becomes A (more_trees t ts) zero x y a p = all_more p (trees-stay here stores gone A ts a.1)
  nth-becomes A (more_trees t ts) (suc k) x y a p = all_more (tree-stays here stores gone A t a.0) (nth-becomes A ts k x y a.1 p)

  argument-becomes : (A : List Declared) (ms : MessagesOf Name) (k : ℕ) (x y : TreeOf Name) → MessagesOnly Kept ms → Changes A x y → BecomeMessages (parts_stored here stores gone) A A (with_argument ms k x) (with_argument ms k y)
  argument-becomes A no_messages k x y a p = messages_none
  argument-becomes A (more_messages s args ms) k x y a p = by (nat_lt k (count args)) (argument-becomes A ms (k - count args) x y a.2 p)
    where
      by : (b : Bool) → BecomeMessages (parts_stored here stores gone) A A (with_argument ms (k - count args) x) (with_argument ms (k - count args) y) →
          BecomeMessages (parts_stored here stores gone) A A (if b then more_messages s (with_nth args k x) ms else more_messages s args (with_argument ms (k - count args) x)) (if b then more_messages s (with_nth args k y) ms else more_messages s args (with_argument ms (k - count args) y))
      by true ih = messages_more s a.0 (nth-becomes A args k x y a.1 p) (messages-stay here stores gone A ms a.2)
      by false ih = messages_more s a.0 (trees-stay here stores gone A args a.1) ih

  statement-becomes : (A : List Declared) (ss : StatementsOf Name) (k : ℕ) (x y : TreeOf Name) → StatementsSendOnly Kept ss → Changes A x y → BecomeLines (parts_stored here stores gone) A A (with_statement ss k x) (with_statement ss k y)
  statement-becomes A no_statements k x y a p = lines_none
  statement-becomes A (more_statements c t ss) zero x y a p = lines_more c c p (lines-stay here stores gone A ss a.1)
  statement-becomes A (more_statements c t ss) (suc k) x y a p = lines_more c c (tree-stays here stores gone A t a.0) (statement-becomes A ss k x y a.1 p)

  child-becomes : (A : List Declared) (t : TreeOf Name) (k : ℕ) (x y : TreeOf Name) → SendsOnly Kept t → MakesNoControl (with_child t k x) (with_child t k y) → Changes (declared_inside A t) x y → Changes A (with_child t k x) (with_child t k y)
  child-becomes A (var n) k x y a m p = at_part (same_name n)
  child-becomes A (literal l) k x y a m p = at_literal l
  child-becomes A (send r s args) zero x y a m p = in_send s a.0 (λ e. tt) m p (trees-stay here stores gone A args a.2)
  child-becomes A (send r s args) (suc k) x y a m p = in_send s a.0 (λ e. tt) m (tree-stays here stores gone A r a.1) (nth-becomes A args k x y a.2 p)
  child-becomes A (cascade r ms) zero x y a m p = in_cascade p (messages-stay here stores gone A ms a.1)
  child-becomes A (cascade r ms) (suc k) x y a m p = in_cascade (tree-stays here stores gone A r a.0) (argument-becomes A ms k x y a.1 p)
  child-becomes A (assign n t) zero x y a m p = in_assign n refl p
  child-becomes A (assign n t) (suc k) x y a m p = in_assign n refl (tree-stays here stores gone A t a)
  child-becomes A (block ps ts ss e) k x y a m p = in_block ps ts e e (statement-becomes (opened ps ts A) ss k x y a p)
  child-becomes A (brace ts) k x y a m p = in_brace (nth-becomes A ts k x y a p)
  child-becomes A (return t) zero x y a m p = in_return tt p
  child-becomes A (return t) (suc k) x y a m p = in_return tt (tree-stays here stores gone A t a)

  -- along a path
  pub replaced-becomes : (A : List Declared) (t : TreeOf Name) (path : List ℕ) (v u : TreeOf Name) → SendsOnly Kept t → StaysMessage t path v u → here (declared_round A t path) v u → Changes A (replaced t path v) (replaced t path u)
  replaced-becomes A t [] v u a m p = at_part (other_part p)
  replaced-becomes A t (k ∷ []) v u a m p = by (child t k) m p
    where
      by : (o : Option (TreeOf Name)) → MakesNoControl (with_child t k v) (with_child t k u) → here (unwrap_or (option_map (λ c. declared_inside A t) o) A) v u →
          Changes A (unwrap_or (option_map (λ c. with_child t k v) o) t) (unwrap_or (option_map (λ c. with_child t k u) o) t)
      by (Some c) m p = child-becomes A t k v u a m (at_part (other_part p))
      by None m p = tree-stays here stores gone A t a
  replaced-becomes A t (k ∷ j ∷ ks) v u a m p = by (child t k) refl (λ c. replaced-becomes (declared_inside A t) c (j ∷ ks) v u) m p
    where
      by : (o : Option (TreeOf Name)) → child t k ≡ o →
          ((c : TreeOf Name) → SendsOnly Kept c → StaysMessage c (j ∷ ks) v u → here (declared_round (declared_inside A t) c (j ∷ ks)) v u → Changes (declared_inside A t) (replaced c (j ∷ ks) v) (replaced c (j ∷ ks) u)) →
          OptionNames (λ c. StaysMessage c (j ∷ ks) v u) o → here (unwrap_or (option_map (λ c. declared_round (declared_inside A t) c (j ∷ ks)) o) A) v u →
          Changes A (unwrap_or (option_map (λ c. with_child t k (replaced c (j ∷ ks) v)) o) t) (unwrap_or (option_map (λ c. with_child t k (replaced c (j ∷ ks) u)) o) t)
      by (Some c) e ih m p =
          child-becomes A t k (replaced c (j ∷ ks) v) (replaced c (j ∷ ks) u) a (λ q. sym (control-child t k (replaced c (j ∷ ks) v) (replaced c (j ∷ ks) u) (block-replaced c j ks v u)) ∙ q)
          (ih c (sends-nth Kept (children t) k c (sends-children Kept t a) e) m p)
      by None e ih m p = tree-stays here stores gone A t a

  -- the same of a path into statements
  pub statements-become : (A : List Declared) (ss : StatementsOf Name) (path : List ℕ) (v u : TreeOf Name) → StatementsSendOnly Kept ss → StaysMessageAmong ss path v u → here (declared_among A ss path) v u →
      BecomeLines (parts_stored here stores gone) A A (statements_replaced ss path v) (statements_replaced ss path u)
  statements-become A ss [] v u a m p = lines-stay here stores gone A ss a
  statements-become A ss (k ∷ ks) v u a m p = by (nth (statement_trees ss) k) refl m p
    where
      by : (o : Option (TreeOf Name)) → nth (statement_trees ss) k ≡ o → OptionNames (λ c. StaysMessage c ks v u) o → here (unwrap_or (option_map (λ c. declared_round A c ks) o) A) v u →
          BecomeLines (parts_stored here stores gone) A A (unwrap_or (option_map (λ c. with_statement ss k (replaced c ks v)) o) ss) (unwrap_or (option_map (λ c. with_statement ss k (replaced c ks u)) o) ss)
      by (Some c) e m p = statement-becomes A ss k (replaced c ks v) (replaced c ks u) a (replaced-becomes A c ks v u (sends-nth Kept (statement_trees ss) k c (sends-statements Kept ss a) e) m p)
      by None e m p = lines-stay here stores gone A ss a
