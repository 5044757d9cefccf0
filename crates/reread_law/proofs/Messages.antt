-- The canonical texts of messages, sends and cascades are read as they are.
use Rattle.std.proofs.Common.{◌≡◌, ℕ, ◌+◌, ◌≤◌, true, [], ◌∷◌, ◌++◌, max, arith, refl, ap, sym, ◌∙◌, append_assoc}
use Rattle.std.proofs.lemmas.Bool.{false≢true}
use Rattle.tree_model.specs.Tree.{Notes, TreeOf, send, TreesOf, no_trees, more_trees}
use Rattle.tree_model.specs.Measure.{height, trees_height}
use Rattle.text_model.specs.declared.precedence.Precedence.{Precedence}
use Rattle.text_model.specs.declared.precedence.Precedence.TheVariants as loose
use Rattle.text_model.specs.Precedences.{precedence_of, is_looser, operand_text, message_precedence, receiver_limit}
use Rattle.text_model.specs.Literals.{is_operator}
use Rattle.text_model.specs.Expressions.{expression_text, argument_texts, message_text}
use Rattle.grammar_model.specs.Terminal.{Text}
use Rattle.grammar_model.specs.Input.{Input, from_of, next}
use Rattle.grammar_model.specs.Spanned.{SpannedTree, SpannedTrees, NoTrees, MoreTrees, one_tree, plain_tree, plain_trees}
use Rattle.grammar_model.specs.Chain.{Chain, Told, whole, sent}
use Rattle.grammar_model.specs.Ahead.{Any}
use Rattle.grammar_model.specs.Grammar.{OneKeywords, Parts, LastPart, FurtherPart}
use Rattle.reread_law.specs.WellFormed.{IsWord, AreParts, LastOne, OneBefore, FitsArguments, FitsNone, FitsOne, FitsParts, IsValue, NoReturn}
use Rattle.reread_law.proofs.Made.{value_returns}
use Rattle.reread_law.proofs.Bytes.{ends, ends_all}
use Rattle.reread_law.proofs.Steps.{World, Here, Fresh, blank_step, held_as, text_as}
use Rattle.reread_law.proofs.ReadsLiterals.{step_name, step_keyword, step_operator}
use Rattle.reread_law.proofs.Selectors.{operator_colon, parts_colon, unary_text, binary_text, last_text, before_text}
use Rattle.reread_law.proofs.Operands.{UnaryRead, BinaryRead, KeywordRead, to_binary, to_keyword, to_expression, CanRead, can_unary, operand_unary, operand_binary, sent_plain, sent_whole, sent_told, unaries_more, binaries_more, as_argument, as_keyword_argument}

-- arguments whose texts are read as they are
abbrev pub CanReadAll : TreesOf Text → Type 0
CanReadAll no_trees = Unit {0}
CanReadAll (more_trees t ts) = CanRead t × IsValue t × CanReadAll ts

-- keywords with their arguments were read
pub record PartsRead (w : World) (n : ℕ) (i : Input) (h : Notes) (s : Text) (xs : TreesOf Text) (r : Text) : Type 0 where
  pub arguments : SpannedTrees
  pub stop : Input
  pub parts : Parts Any i s arguments stop
  pub plain : plain_trees arguments ≡ xs
  pub held : stop.held ≡ h
  pub fresh : Fresh w n stop r

-- keywords begin with a blank
parts_end : (k : ℕ) (r s : Text) (xs : TreesOf Text) → AreParts s xs → ends (message_text s (argument_texts k loose.Keyword xs) ++ r) ≡ true
parts_end k r s xs (LastOne {x} g) = ap (λ y. ends (y ++ r)) (last_text s (operand_text loose.Binary (precedence_of x) (expression_text k x)) g)
parts_end k r s xs (OneBefore {k = q} {s = p} {x} {xs = ys} g d) =
    ap (λ y. ends (y ++ r)) (before_text q p (operand_text loose.Binary (precedence_of x) (expression_text k x)) (argument_texts k loose.Keyword ys) g)

-- keywords with their arguments
pub reads_parts : (s : Text) (xs : TreesOf Text) → AreParts s xs → CanReadAll xs → (w : World) (n k : ℕ) (i : Input) (h : Notes) (r : Text) → ends r ≡ true → n + trees_height xs + 1 ≤ 400 → Here w n i h (message_text s (argument_texts k loose.Keyword xs) ++ r) → PartsRead w n i h s xs r
reads_parts s xs (LastOne {x} g) can w n k i h r e le a =
    let t = operand_text loose.Binary (precedence_of x) (expression_text k x) in
    let b = blank_step 32 ((s ++ 32 ∷ t) ++ r) refl (text_as _ (32 ∷ ((s ++ 32 ∷ t) ++ r)) (ap (λ y. y ++ r) (last_text s t g)) a) in
    let y = step_keyword s (32 ∷ (t ++ r)) g (λ f. omega arith) (text_as _ (s ++ 32 ∷ (t ++ r)) (append_assoc s (32 ∷ t) r) b) in
    let z = as_keyword_argument can.1 (operand_binary can.0 (value_returns x can.1) w n k (next i) h r e (omega arith) (blank_step 32 (t ++ r) refl (held_as y.1.held y.1.fresh.here))) in
    record { arguments = one_tree z.tree; stop = z.stop; parts = LastPart y.1.kind z.argument tt; plain = ap (λ u. more_trees u no_trees) z.plain; held = z.held; fresh = z.fresh }
reads_parts s xs (OneBefore {k = q} {s = p} {x} {xs = ys} g d) can w n k i h r e le a =
    let t = operand_text loose.Binary (precedence_of x) (expression_text k x) in
    let m = message_text p (argument_texts k loose.Keyword ys) in
    let b = blank_step 32 ((q ++ 32 ∷ (t ++ m)) ++ r) refl (text_as _ (32 ∷ ((q ++ 32 ∷ (t ++ m)) ++ r)) (ap (λ y. y ++ r) (before_text q p t (argument_texts k loose.Keyword ys) g)) a) in
    let y = step_keyword q (32 ∷ ((t ++ m) ++ r)) g (λ f. omega arith) (text_as _ (q ++ 32 ∷ ((t ++ m) ++ r)) (append_assoc q (32 ∷ (t ++ m)) r) b) in
    let c = text_as ((t ++ m) ++ r) (t ++ (m ++ r)) (append_assoc t m r) (blank_step 32 ((t ++ m) ++ r) refl (held_as y.1.held y.1.fresh.here)) in
    let z = as_keyword_argument can.1 (operand_binary can.0 (value_returns x can.1) w n k (next i) h (m ++ r) (parts_end k r p ys d) (omega arith) c) in
    let v = reads_parts p ys d can.2 w n k z.stop h r e (omega arith) (held_as z.held z.fresh.here) in
    record { arguments = MoreTrees z.tree v.arguments; stop = v.stop; parts = FurtherPart {m = z.stop} {j = v.stop} {x = z.tree} {xs = v.arguments} y.1.kind z.argument v.parts; plain = (λ j. more_trees (z.plain j) (v.plain j)); held = v.held; fresh = v.fresh }

-- the chain ends with a message from which a cascade can go on
pub record IsTold (c : Chain) (r : TreeOf Text) (s : Text) (xs : TreesOf Text) : Type 0 where
  pub from : ℕ
  pub to : ℕ
  pub receiver : SpannedTree
  pub arguments : SpannedTrees
  pub is : c ≡ Told from to receiver s arguments
  pub plain_receiver : plain_tree receiver ≡ r
  pub plain_arguments : plain_trees arguments ≡ xs

-- a unary send was read
record SentUnary (w : World) (n : ℕ) (i : Input) (h : Notes) (r : TreeOf Text) (s : Text) (xs : TreesOf Text) (q : Text) : Type 0 where
  read : UnaryRead w n i h (send r s xs) q
  told : IsValue r → IsTold read.last r s xs

-- a binary send was read
record SentBinary (w : World) (n : ℕ) (i : Input) (h : Notes) (r : TreeOf Text) (s : Text) (xs : TreesOf Text) (q : Text) : Type 0 where
  read : BinaryRead w n i h (send r s xs) q
  told : IsValue r → IsTold read.last r s xs

-- any send was read
pub record Sent (w : World) (n : ℕ) (i : Input) (h : Notes) (r : TreeOf Text) (s : Text) (xs : TreesOf Text) (q : Text) : Type 0 where
  pub read : KeywordRead w n i h (send r s xs) q
  pub told : IsValue r → IsTold read.last r s xs

-- the text of a send whose message has this precedence
abbrev pub send_text : ℕ → Precedence → TreeOf Text → Text → TreesOf Text → Text
send_text k p r s xs = operand_text (receiver_limit p) (precedence_of r) (expression_text k r) ++ message_text s (argument_texts k p xs)

-- a unary send
send_unary : (r : TreeOf Text) (s : Text) → CanRead r → NoReturn r → IsWord s → (w : World) (n k : ℕ) (i : Input) (h : Notes) (q : Text) → ends q ≡ true → n + height r + 1 ≤ 400 → Here w n i h (send_text k loose.Unary r s no_trees ++ q) → SentUnary w n i h r s no_trees q
send_unary r s can kept g w n k i h q e le a =
    let t = operand_text loose.Unary (precedence_of r) (expression_text k r) in
    let b = text_as _ (t ++ 32 ∷ (s ++ q)) (append_assoc t (message_text s []) q ∙ ap (λ y. t ++ (y ++ q)) (unary_text s g)) a in
    let y = operand_unary can kept w n k i h (32 ∷ (s ++ q)) refl le b in
    let z = step_name s q g (ends_all q e) (blank_step 32 (s ++ q) refl (held_as y.held y.fresh.here)) in
    let f = from_of i in
    let to = (next y.stop).last in
    record {
      read = record {
        first = y.first;
        middle = y.middle;
        last = sent f to y.last s NoTrees;
        stop = next y.stop;
        operand = y.operand;
        unaries = unaries_more y.unaries z.1.kind;
        plain = sent_plain f to y.last s NoTrees ∙ ap (λ u. send u s no_trees) y.plain;
        value = λ v. sent_whole f to y.last s NoTrees;
        held = z.1.held;
        fresh = z.1.fresh;
      };
      told = λ v. record { from = f; to = to; receiver = whole y.last; arguments = NoTrees; is = sent_told f to y.last s NoTrees (y.value v); plain_receiver = y.plain; plain_arguments = refl };
    }

-- a binary send
send_binary : (r : TreeOf Text) (s : Text) (x : TreeOf Text) → CanRead r → NoReturn r → is_operator s ≡ true → CanRead x → IsValue x → (w : World) (n k : ℕ) (i : Input) (h : Notes) (q : Text) → ends q ≡ true → n + max (height r) (height x) + 1 ≤ 400 → Here w n i h (send_text k loose.Binary r s (more_trees x no_trees) ++ q) → SentBinary w n i h r s (more_trees x no_trees) q
send_binary r s x can kept g arg val w n k i h q e le a =
    let t = operand_text loose.Binary (precedence_of r) (expression_text k r) in
    let u = operand_text loose.Unary (precedence_of x) (expression_text k x) in
    let b = text_as _ (t ++ 32 ∷ ((s ++ 32 ∷ u) ++ q)) (append_assoc t (message_text s (u ∷ [])) q ∙ ap (λ y. t ++ (y ++ q)) (binary_text s u g)) a in
    let y = operand_binary can kept w n k i h (32 ∷ ((s ++ 32 ∷ u) ++ q)) refl (omega arith) b in
    let c = text_as ((s ++ 32 ∷ u) ++ q) (s ++ 32 ∷ (u ++ q)) (append_assoc s (32 ∷ u) q) (blank_step 32 ((s ++ 32 ∷ u) ++ q) refl (held_as y.held y.fresh.here)) in
    let z = step_operator s (u ++ q) g c in
    let v = as_argument val (operand_unary arg (value_returns x val) w n k (next y.stop) h q e (omega arith) (blank_step 32 (u ++ q) refl (held_as z.1.held z.1.fresh.here))) in
    let f = from_of i in
    let to = v.stop.last in
    record {
      read = record {
        first = y.first;
        middle = y.middle;
        second = y.second;
        later = y.later;
        last = sent f to y.last s (one_tree v.tree);
        stop = v.stop;
        operand = y.operand;
        unaries = y.unaries;
        binaries = binaries_more y.binaries z.1.kind v.argument;
        plain = sent_plain f to y.last s (one_tree v.tree) ∙ (λ j. send (y.plain j) s (more_trees (v.plain j) no_trees));
        value = λ v. sent_whole f to y.last s (one_tree _);
        held = v.held;
        fresh = v.fresh;
      };
      told = λ w. record { from = f; to = to; receiver = whole y.last; arguments = one_tree v.tree; is = sent_told f to y.last s (one_tree v.tree) (y.value w); plain_receiver = y.plain; plain_arguments = ap (λ u. more_trees u no_trees) v.plain };
    }

-- a keyword send
send_keyword : (r : TreeOf Text) (s : Text) (xs : TreesOf Text) → CanRead r → NoReturn r → AreParts s xs → CanReadAll xs → (w : World) (n k : ℕ) (i : Input) (h : Notes) (q : Text) → ends q ≡ true → n + max (height r) (trees_height xs) + 1 ≤ 400 → Here w n i h (send_text k loose.Keyword r s xs ++ q) → Sent w n i h r s xs q
send_keyword r s xs can kept g args w n k i h q e le a =
    let t = operand_text loose.Binary (precedence_of r) (expression_text k r) in
    let m = message_text s (argument_texts k loose.Keyword xs) in
    let y = operand_binary can kept w n k i h (m ++ q) (parts_end k q s xs g) (omega arith) (text_as ((t ++ m) ++ q) (t ++ (m ++ q)) (append_assoc t m q) a) in
    let v = reads_parts s xs g args w n k y.stop h q e (omega arith) (held_as y.held y.fresh.here) in
    let f = from_of i in
    let to = v.stop.last in
    record {
      read = record {
        first = y.first;
        middle = y.middle;
        second = y.second;
        later = y.later;
        third = y.last;
        latest = y.stop;
        last = sent f to y.last s v.arguments;
        stop = v.stop;
        operand = y.operand;
        unaries = y.unaries;
        binaries = y.binaries;
        keywords = OneKeywords v.parts;
        plain = sent_plain f to y.last s v.arguments ∙ (λ j. send (y.plain j) s (v.plain j));
        value = λ w. sent_whole f to y.last s v.arguments;
        held = v.held;
        fresh = v.fresh;
      };
      told = λ w. record { from = f; to = to; receiver = whole y.last; arguments = v.arguments; is = sent_told f to y.last s v.arguments (y.value w); plain_receiver = y.plain; plain_arguments = v.plain };
    }

-- the precedence of a message with arguments
pub binary_precedence : (s : Text) (x : TreeOf Text) → is_operator s ≡ true → message_precedence s (more_trees x no_trees) ≡ loose.Binary
binary_precedence s x g = rw (operator_colon s g) refl

-- the precedence of a message of keywords
pub keyword_precedence : (s : Text) (xs : TreesOf Text) → AreParts s xs → message_precedence s xs ≡ loose.Keyword
keyword_precedence s xs (LastOne {x} g) = let c = parts_colon {xs = more_trees x no_trees} s (LastOne g) in rw c refl
keyword_precedence s xs (OneBefore {k} {s = p} {x} {xs = ys} g d) = let c = parts_colon {xs = more_trees x ys} (k ++ p) (OneBefore g d) in rw c refl

-- any send
pub sends : (r : TreeOf Text) (s : Text) (xs : TreesOf Text) → CanRead r → NoReturn r → FitsArguments s xs → CanReadAll xs → (w : World) (n k : ℕ) (i : Input) (h : Notes) (q : Text) → ends q ≡ true → n + max (height r) (trees_height xs) + 1 ≤ 400 → Here w n i h (send_text k (message_precedence s xs) r s xs ++ q) → Sent w n i h r s xs q
sends r s xs can kept (FitsNone g) args w n k i h q e le a = let z = send_unary r s can kept g w n k i h q e (omega arith) a in record { read = to_keyword (to_binary z.read); told = z.told }
sends r s xs can kept (FitsOne {x} g) args w n k i h q e le a =
    let z = send_binary r s x can kept g args.0 args.1 w n k i h q e (omega arith) (text_as _ _ (ap (λ p. send_text k p r s (more_trees x no_trees) ++ q) (binary_precedence s x g)) a) in
    record { read = to_keyword z.read; told = z.told }
sends r s xs can kept (FitsParts g) args w n k i h q e le a = send_keyword r s xs can kept g args w n k i h q e le (text_as _ _ (ap (λ p. send_text k p r s xs ++ q) (keyword_precedence s xs g)) a)

-- a send is read as it is
pub can_send : (r : TreeOf Text) (s : Text) (xs : TreesOf Text) → CanRead r → NoReturn r → FitsArguments s xs → CanReadAll xs → CanRead (send r s xs)
can_send r s xs can kept (FitsNone g) args =
    can_unary (send r s no_trees) (λ x. x) (λ w n k i h q e le a. (send_unary r s can kept g w n k i h q e (omega arith) a).read)
can_send r s xs can kept (FitsOne {x} g) args =
    let p = binary_precedence s x g in
    let text = λ (k : ℕ) (q : Text). ap (λ p. send_text k p r s (more_trees x no_trees) ++ q) p in
    record {
      unary = λ u f. cc;
      binary = λ u f w n k i h q e le a. (send_binary r s x can kept g args.0 args.1 w n k i h q e (omega arith) (text_as _ _ (text k q) a)).read;
      expression = λ v w n k i h q e le a. to_expression v (to_keyword (send_binary r s x can kept g args.0 args.1 w n k i h q e (omega arith) (text_as _ _ (text k q) a)).read);
      returned = λ x. absurd x;
    }
can_send r s xs can kept (FitsParts g) args =
    let p = keyword_precedence s xs g in
    record {
      unary = λ u f. cc;
      binary = λ u f. absurd (false≢true (sym u ∙ ap (λ p. is_looser p loose.Binary) p));
      expression = λ v w n k i h q e le a. to_expression v (send_keyword r s xs can kept g args w n k i h q e (omega arith) (text_as _ _ (ap (λ p. send_text k p r s xs ++ q) p) a)).read;
      returned = λ x. absurd x;
    }
