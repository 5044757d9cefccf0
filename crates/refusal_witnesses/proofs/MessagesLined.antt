-- What is in the way of conditions of messages, temporaries, arguments and heights has lines.
use Rattle.std.proofs.Common.{◌≡◌, ℕ, zero, suc, List, [], ◌∷◌, ◌++◌, length, Option, Some, None, map, refl, sym, ap, subst, ◌∙◌, arith}
use Rattle.std.specs.Prelude.{Bool, true, false, not, ◌&&◌, ◌||◌, ◌-◌, ◌==◌, cond, nat_lt, filter, take, slice_get, is_some, option_and_then, option_map}
use Rattle.std.specs.List.{AllByRecursion, enumerate_from}
use Rattle.std.specs.Option.{option_map_or, option_or}
use Rattle.std.proofs.lemmas.Bool.{false≢true, eqb-true}
use Rattle.tree_model.specs.Tree.{TreeOf, send, assign, SequenceOf, MethodOf}
use Rattle.tree_model.specs.Path.{nth, part_in, with_child}
use Rattle.tree_model.specs.Nodes.{Placed, nodes}
use Rattle.scope_model.specs.declared.local.ControlForm.{ControlForm}
use Rattle.scope_model.specs.Control.{is_control}
use Rattle.scope_model.specs.FreeNames.{free_names}
use Rattle.image_model.specs.Image.{ClassOf, EntryOf, DoItOf, ImageOf}
use Rattle.image_model.specs.Words.{text_words}
use Rattle.image_model.specs.Chain.{chain_from, class_of_name}
use Rattle.image_model.specs.Lookup.{own_method, on_chain, as_object, lookup}
use Rattle.image_model.specs.Means.{means}
use Rattle.image_model.specs.Nodes.{in_doit, NodeOf}
use Rattle.image_model.specs.Uses.{name_used}
use Rattle.rename_model.specs.NamesThere.{declared_by}
use Rattle.query_model.specs.Lines.{Text}
use Rattle.command_model.specs.Asked.{text_asked}
use Rattle.command_model.specs.Commands.{CommandOf, AddParameter, AbstractInstVar, ExtractMethod, InlineMethod, ExtractTemp, InlineTemp}
use Rattle.command_model.specs.Parts.{Part, Expression, Run}
use Rattle.command_model.specs.Places.{SendOf, as_send, sent_by, is_return}
use Rattle.command_model.specs.Hierarchy.{is_method_of}
use Rattle.command_model.specs.SameMethods.{is_super_node}
use Rattle.command_model.specs.Inlined.{answered, unfolded, passed_for}
use Rattle.command_model.specs.InlineConditions.{is_self_send, makes_control, makes_no_control}
use Rattle.command_model.specs.LetConditions.{let_path, is_let_form}
use Rattle.command_model.specs.ParameterConditions.{formal_reads}
use Rattle.command_model.specs.Temporaries.{LetOf, only, is_declared_once, assigned_scope, read_scope, reads_of, let_at, let_of}
use Rattle.command_model.specs.CodeEffects.{method_at, part_at, send_at, target_of, tree_inlining, tree_extracting, tree_without}
use Rattle.refusal_witnesses.specs.Witnesses.{AtPlace, InMethod, AWhole, TwoMeanings, a_node, a_method, where_true, nodes_that}
use Rattle.refusal_witnesses.specs.ParameterWitnesses.{failing, argument_reads_in, argument_reads, passes_plain, other_passings, too_high_made, heights_after}
use Rattle.refusal_witnesses.specs.InlineWitnesses.{above, other_receiver, other_targets, not_inlinable, is_actual_plain, other_actual, other_actuals, captured_name, captured_at, captured, new_control}
use Rattle.refusal_witnesses.specs.TemporaryWitnesses.{declarations_at, declarations, further_declarations, is_assignment_of, no_let, changed_name, changed_at, changed_names, new_controls}
use Rattle.refusal_witnesses.specs.Spelled.{IsSpelledMethod, IsSpelledImage}
use Rattle.refusal_witnesses.proofs.Alls.{all-weaker, all-every, all-mapped, all-filtered, all-joined, all-both, all-cond, all-where, all-where-true, all-given, first-given}
use Rattle.refusal_witnesses.proofs.Leading.{Leads, nodes-lead, leads-child}
use Rattle.refusal_witnesses.proofs.LinesThere.{HasLine, HaveLines, whole-lined, node-lined, meanings-lined, nodes-lined}
use Rattle.refusal_witnesses.proofs.NamesLined.{methods-lined, places-lined, own-spelled}
use Rattle.refusal_witnesses.proofs.PartsLined.{IsPartThere, part-there}

-- the paths of nodes that pass a test lead somewhere
paths-lead : (b : SequenceOf Text) (test : Placed Text → Bool) → AllByRecursion (Leads b) (map (λ (e : Placed Text). e.0) (filter test (nodes b)))
paths-lead b test =
    all-mapped (Leads b) (λ (e : Placed Text). e.0) (filter test (nodes b))
    (all-filtered (λ (e : Placed Text). Leads b e.0) test (nodes b)
    (all-weaker (λ (e : Placed Text). part_in b e.0 ≡ Some e.1) (λ (e : Placed Text). Leads b e.0) (λ e at. (e.1, at)) (nodes b) (nodes-lead b)))

-- a message stands where its path leads
abbrev pub IsSendThere : MethodOf Text → SendOf Text → Type 0
IsSendThere m e = part_in m.body e.path ≡ Some (send e.receiver e.selector e.arguments)

send-of : (path : List ℕ) (t : TreeOf Text) (e : SendOf Text) → as_send path t ≡ Some e → (path ≡ e.path) × (t ≡ send e.receiver e.selector e.arguments)
send-of path (send r s args) e h =
    let same : record { path = path; receiver = r; selector = s; arguments = args } ≡ e = cc in
    (ap (λ (x : SendOf Text). x.path) same, ap (λ (x : SendOf Text). send x.receiver x.selector x.arguments) same)
send-of path t e h = absurd (cc)

send-there : (m : MethodOf Text) (part : Part) (e : SendOf Text) → sent_by m part ≡ Some e → IsSendThere m e
send-there m (Expression path) e h = by (part_in m.body path) refl h
  where
    by : (o : Option (TreeOf Text)) → part_in m.body path ≡ o → option_and_then (as_send path) o ≡ Some e → IsSendThere m e
    by None q g = absurd (cc)
    by (Some t) q g =
        let found = send-of path t e g in
        ap (part_in m.body) (sym found.0) ∙ q ∙ ap (λ (x : TreeOf Text). Some x) found.1
send-there m (Run path first count) e h = absurd (cc)

-- where a node makes a control send of the one above a place, that one is there
control-above : (form : Text → ControlForm) (m : MethodOf Text) (path : List ℕ) (t : TreeOf Text) → makes_control form m path t ≡ true → Leads m.body (above path)
control-above form m path t h = by (part_in m.body (above path)) refl h
  where
    by : (o : Option (TreeOf Text)) → part_in m.body (above path) ≡ o → option_map_or (λ u. not (is_control form u) && option_map_or (λ k. is_control form (with_child u k t)) (slice_get path (length path - 1)) false) o false ≡ true → Leads m.body (above path)
    by None q g = absurd (false≢true g)
    by (Some u) q g = (u, q)

negated : (b : Bool) → not (not b) ≡ true → b ≡ true
negated true h = refl
negated false h = absurd (false≢true h)

-- the path of a step and the steps before it
one-longer : (path : List ℕ) (n k : ℕ) → length path ≡ suc n → slice_get path n ≡ Some k → take n path ++ k ∷ [] ≡ path
one-longer [] n k e h = absurd (cc)
one-longer (x ∷ []) zero k e h =
    let same : x ≡ k = cc in
    λ j. sym same j ∷ []
one-longer (x ∷ y ∷ ys) zero k e h = absurd (cc)
one-longer (x ∷ xs) (suc n) k e h =
    let shorter : length xs ≡ suc n = omega (arith, e) in
    ap (λ (l : List ℕ). x ∷ l) (one-longer xs n k shorter h)

-- what passes a filter passes its test
all-passing : {X : Type 0} (p : X → Bool) (xs : List X) → AllByRecursion (λ x. p x ≡ true) (filter p xs)
all-passing p [] = tt
all-passing {X} p (x ∷ xs) = by (p x) refl (all-passing p xs)
  where
    by : (b : Bool) → p x ≡ b → AllByRecursion (λ y. p y ≡ true) (filter p xs) → AllByRecursion (λ y. p y ≡ true) (cond b (x ∷ filter p xs) (filter p xs))
    by true q rest = (q, rest)
    by false q rest = rest

-- the only item of a list is one of it
only-of : {X : Type 0} (P : X → Type 0) (xs : List X) (x : X) → AllByRecursion P xs → only xs ≡ Some x → P x
only-of P [] x h e = absurd (cc)
only-of P (y ∷ []) x h e =
    let same : y ≡ x = cc in
    subst P same h.0
only-of P (y ∷ z ∷ zs) x h e = absurd (cc)

-- the one assignment of a temporary leads somewhere
module _ (m : MethodOf Text) (x : Text) where
  of-assignment : (path : List ℕ) (t : TreeOf Text) (scope : ℕ) (e : LetOf Text) → part_in m.body path ≡ Some t → let_at text_asked (path, t) scope ≡ Some e → Leads m.body (let_path e)
  of-assignment path (assign n t) scope e at h = by (length path == suc scope) refl (slice_get path scope) refl h
    where
      by : (b : Bool) → (length path == suc scope) ≡ b → (o : Option ℕ) → slice_get path scope ≡ o → cond b (option_map (λ k. record { sequence = take scope path; number = k; value = t }) o) None ≡ Some e → Leads m.body (let_path e)
      by false q o r g = absurd (cc)
      by true q None r g = absurd (cc)
      by true q (Some k) r g =
          let same : record { sequence = take scope path; number = k; value = t } ≡ e = cc in
          let whole : take scope path ++ k ∷ [] ≡ path = one-longer path scope k (eqb-true (length path) (suc scope) q) r in
          (assign n t, ap (λ (y : LetOf Text). part_in m.body (let_path y)) (sym same) ∙ ap (part_in m.body) whole ∙ at)
  of-assignment path t scope e at h = absurd (cc)

  lets-lead : (e : LetOf Text) → let_of text_asked m x ≡ Some e → Leads m.body (let_path e)
  lets-lead e h = by (is_declared_once text_asked m x) h
    where
      assigned : List (Placed Text)
      assigned = filter (λ n. is_some (assigned_scope text_asked m x n)) (nodes m.body)

      lead : AllByRecursion (λ (n : Placed Text). part_in m.body n.0 ≡ Some n.1) assigned
      lead = all-filtered (λ (n : Placed Text). part_in m.body n.0 ≡ Some n.1) (λ n. is_some (assigned_scope text_asked m x n)) (nodes m.body) (nodes-lead m.body)

      of-scope : (n : Placed Text) → part_in m.body n.0 ≡ Some n.1 → (o : Option ℕ) → option_and_then (let_at text_asked n) o ≡ Some e → Leads m.body (let_path e)
      of-scope n at None g = absurd (cc)
      of-scope n at (Some scope) g = of-assignment n.0 n.1 scope e at g

      of-only : (o : Option (Placed Text)) → only assigned ≡ o → option_and_then (λ n. option_and_then (let_at text_asked n) (assigned_scope text_asked m x n)) o ≡ Some e → Leads m.body (let_path e)
      of-only None q g = absurd (cc)
      of-only (Some n) q g = of-scope n (only-of (λ (y : Placed Text). part_in m.body y.0 ≡ Some y.1) assigned n lead q) (assigned_scope text_asked m x n) g

      by : (b : Bool) → cond b (option_and_then (λ n. option_and_then (let_at text_asked n) (assigned_scope text_asked m x n)) (only assigned)) None ≡ Some e → Leads m.body (let_path e)
      by false g = absurd (cc)
      by true g = of-only (only assigned) refl g

module _ (i : ImageOf Text) (spelled : IsSpelledImage i) where
  -- a method that is looked up is spelled
  chain-spelled : (o : Option (ClassOf Text)) (meta : Bool) (s : Text) (m : EntryOf Text) → on_chain text_words.tests.same i o meta s ≡ Some m → IsSpelledMethod m
  chain-spelled o meta s m e =
      first-given IsSpelledMethod (λ (c : ClassOf Text). own_method text_words.tests.same i.methods c.name meta s) (λ c n f. own-spelled i spelled text_words.tests.same c.name meta s n f) (chain_from text_words.tests.same i.classes o) m e

  looked-up-spelled : (c : Option Text) (meta : Bool) (s : Text) (m : EntryOf Text) → lookup text_words i c meta s ≡ Some m → IsSpelledMethod m
  looked-up-spelled c meta s m e = by (on_chain text_words.tests.same i (class_of_name text_words.tests.same i.classes c) meta s) refl meta e
    where
      by : (o : Option (EntryOf Text)) → on_chain text_words.tests.same i (class_of_name text_words.tests.same i.classes c) meta s ≡ o → (b : Bool) → option_or o (cond b (as_object text_words i s) None) ≡ Some m → IsSpelledMethod m
      by (Some n) q b g = chain-spelled (class_of_name text_words.tests.same i.classes c) meta s m (q ∙ g)
      by None q true g = chain-spelled _ false s m g
      by None q false g = absurd (cc)

  -- conditions of arguments and of heights
  formal-reads-lined : (m : EntryOf Text) (x : Text) → IsSpelledMethod m → HaveLines i (map (a_node (InMethod m)) (formal_reads text_asked m.tree x))
  formal-reads-lined m x known =
      all-mapped (HasLine i) (a_node (InMethod m)) (formal_reads text_asked m.tree x)
      (all-weaker (Leads m.tree.body) (λ p. HasLine i (a_node (InMethod m) p)) (λ p at. node-lined i m p at.0 known at.1) (formal_reads text_asked m.tree x) (paths-lead m.tree.body _))

  pub argument-reads-lined : (s : Text) (k : ℕ) → HaveLines i (argument_reads text_asked i s k)
  argument-reads-lined s k =
      methods-lined i spelled (argument_reads_in text_asked i s k)
      (λ m known. all-cond (HasLine i) (m.kernel || not (text_asked.words.tests.same s m.tree.selector)) [] _ tt
      (all-given (HasLine i) (λ x. map (a_node (InMethod m)) (formal_reads text_asked m.tree x)) (slice_get m.tree.arguments (k - 1)) (a_method m ∷ []) (λ x e. formal-reads-lined m x known) (whole-lined i (InMethod m), tt)))

  pub other-passings-lined : (s : Text) (k : ℕ) → HaveLines i (other_passings text_asked i s k)
  other-passings-lined s k = places-lined i spelled (λ (e : NodeOf Text). not (passes_plain text_asked i s k e))

  pub failing-lined : (j : ImageOf Text) (method_passes : EntryOf Text → Bool) (doit_passes : DoItOf Text → Bool) → HaveLines i (failing method_passes doit_passes j)
  failing-lined j method_passes doit_passes =
      all-both (HasLine i) (map a_method (filter (λ m. not (method_passes m)) j.methods)) _
      (all-mapped (HasLine i) a_method (filter (λ m. not (method_passes m)) j.methods) (all-every (λ (m : EntryOf Text). HasLine i (a_method m)) (λ m. whole-lined i (InMethod m)) (filter (λ m. not (method_passes m)) j.methods)))
      (all-mapped (HasLine i) (λ (e : ℕ × DoItOf Text). AWhole (AtPlace (in_doit e.0))) (filter (λ (e : ℕ × DoItOf Text). not (doit_passes e.1)) (enumerate_from 0 j.doits))
      (all-every (λ (e : ℕ × DoItOf Text). HasLine i (AWhole (AtPlace (in_doit e.0)))) (λ e. whole-lined i (AtPlace (in_doit e.0))) (filter (λ (e : ℕ × DoItOf Text). not (doit_passes e.1)) (enumerate_from 0 j.doits))))

  made-lined : (c : Text) (meta : Bool) (s : Text) (change : EntryOf Text → Option (MethodOf Text)) → HaveLines i (too_high_made text_asked i c meta s change)
  made-lined c meta s change =
      all-given (HasLine i) _ (method_at text_asked i c meta s) []
      (λ m e. all-given (HasLine i) _ (change m) [] (λ tree f. all-where (HasLine i) _ (a_method m) (whole-lined i (InMethod m))) tt) tt

  pub heights-lined : (command : CommandOf Text) → HaveLines i (heights_after text_asked i command)
  heights-lined (AddParameter s t x passed) = failing-lined i _ _
  heights-lined (AbstractInstVar c x setter given) = failing-lined i _ _
  heights-lined (ExtractMethod c meta s from to t) =
      all-given (HasLine i) _ (part_at text_asked i c meta s from to) []
      (λ e f. all-both (HasLine i) (where_true _ _) (where_true _ _) (all-where (HasLine i) _ _ (whole-lined i _)) (all-where (HasLine i) _ _ (whole-lined i _))) tt
  heights-lined (InlineMethod c meta s from to) = made-lined c meta s (tree_inlining text_asked i c meta s from to)
  heights-lined (ExtractTemp c meta s from to x) = made-lined c meta s (tree_extracting text_asked i from to x)
  heights-lined (InlineTemp c meta s x) = made-lined c meta s (tree_without text_asked i x)
  heights-lined command = tt

  -- the message that a part is
  pub sent-there : (c : Text) (meta : Bool) (s : Text) (from to : ℕ) (e : EntryOf Text × SendOf Text) → send_at text_asked i c meta s from to ≡ Some e → IsSpelledMethod e.0 × IsSendThere e.0.tree e.1
  sent-there c meta s from to e found = by (part_at text_asked i c meta s from to) refl found
    where
      of : (m : EntryOf Text) (part : Part) → IsPartThere m part → (o : Option (SendOf Text)) → sent_by m.tree part ≡ o → option_map (λ (x : SendOf Text). (m, x)) o ≡ Some e → IsSpelledMethod e.0 × IsSendThere e.0.tree e.1
      of m part there None q g = absurd (cc)
      of m part there (Some x) q g =
          let same : (m, x) ≡ e = cc in
          subst (λ (y : EntryOf Text × SendOf Text). IsSpelledMethod y.0 × IsSendThere y.0.tree y.1) same (there.spelled, send-there m.tree part x q)

      by : (o : Option (EntryOf Text × Part)) → part_at text_asked i c meta s from to ≡ o → option_and_then (λ (p : EntryOf Text × Part). option_map (λ (x : SendOf Text). (p.0, x)) (sent_by p.0.tree p.1)) o ≡ Some e → IsSpelledMethod e.0 × IsSendThere e.0.tree e.1
      by None q g = absurd (cc)
      by (Some p) q g = of p.0 p.1 (part-there i spelled c meta s from to p q) (sent_by p.0.tree p.1) refl g

  pub target-spelled : (c : Text) (meta : Bool) (e : SendOf Text) (target : EntryOf Text) → target_of text_asked i c meta e ≡ Some target → IsSpelledMethod target
  target-spelled c meta e target f = looked-up-spelled (Some c) meta e.selector target f

  pub other-targets-lined : (c : Text) (meta : Bool) (s : Text) → HaveLines i (other_targets text_asked i c meta s)
  other-targets-lined c meta s =
      all-both (HasLine i) (option_map_or (λ (m : EntryOf Text). where_true m.kernel (a_method m)) (lookup text_words i (Some c) meta s) []) _
      (all-given (HasLine i) _ (lookup text_words i (Some c) meta s) [] (λ m e. all-where (HasLine i) m.kernel (a_method m) (whole-lined i (InMethod m))) tt)
      (all-joined (HasLine i) _ i.classes
      (all-every _ (λ (e : ClassOf Text). all-cond (HasLine i) _ (option_map_or (λ m. a_method m ∷ []) (own_method text_words.tests.same i.methods e.name meta s) []) [] (all-given (HasLine i) _ (own_method text_words.tests.same i.methods e.name meta s) [] (λ m f. (whole-lined i (InMethod m), tt)) tt) tt) i.classes))

  module _ (m : EntryOf Text) (e : SendOf Text) (known : IsSpelledMethod m) (at : IsSendThere m.tree e) where
    message-lined : HasLine i (a_node (InMethod m) e.path)
    message-lined = node-lined i m e.path (send e.receiver e.selector e.arguments) known at

    pub other-receiver-lined : HaveLines i (other_receiver text_asked i m e)
    other-receiver-lined =
        all-where (HasLine i) (not (is_self_send text_asked i e)) (a_node (InMethod m) (e.path ++ 0 ∷ []))
        (node-lined i m (e.path ++ 0 ∷ []) e.receiver known (leads-child m.tree.body e.path 0 (send e.receiver e.selector e.arguments) e.receiver at refl))

    pub other-actuals-lined : (target : EntryOf Text) → HaveLines i (other_actuals text_asked i m e target)
    other-actuals-lined target =
        all-joined (HasLine i) (other_actual text_asked i m e target) (enumerate_from 0 target.tree.arguments)
        (all-every (λ x. HaveLines i (other_actual text_asked i m e target x))
        (λ x. all-given (HasLine i) (λ t. where_true (not (is_actual_plain text_asked i m e target x.1 t)) (a_node (InMethod m) (e.path ++ suc x.0 ∷ []))) (nth e.arguments x.0) (a_node (InMethod m) e.path ∷ [])
        (λ t f. all-where (HasLine i) (not (is_actual_plain text_asked i m e target x.1 t)) (a_node (InMethod m) (e.path ++ suc x.0 ∷ []))
        (node-lined i m (e.path ++ suc x.0 ∷ []) t known (leads-child m.tree.body e.path (suc x.0) (send e.receiver e.selector e.arguments) t at f)))
        (message-lined, tt)) (enumerate_from 0 target.tree.arguments))

    pub not-inlinable-lined : (c : Text) (target : EntryOf Text) → IsSpelledMethod target → HaveLines i (not_inlinable text_asked i c m e target)
    not-inlinable-lined c target found =
        all-both (HasLine i) (where_true _ (a_method target)) _ (all-where (HasLine i) _ (a_method target) (whole-lined i (InMethod target)))
        (all-both (HasLine i) (nodes_that (λ x. is_return x.1 && nat_lt 1 (length x.0)) (InMethod target) target.tree.body) _ (nodes-lined i target (λ x. is_return x.1 && nat_lt 1 (length x.0)) found)
        (all-both (HasLine i) (cond (is_method_of text_words.tests.same c target) [] (nodes_that (λ x. is_super_node text_asked.is_super x.1) (InMethod target) target.tree.body)) _
        (all-cond (HasLine i) (is_method_of text_words.tests.same c target) [] (nodes_that (λ x. is_super_node text_asked.is_super x.1) (InMethod target) target.tree.body) tt (nodes-lined i target (λ x. is_super_node text_asked.is_super x.1) found))
        (all-where (HasLine i) _ (a_node (InMethod m) e.path) message-lined)))

    pub captured-lined : (target : EntryOf Text) → IsSpelledMethod target → HaveLines i (captured text_asked i m e target)
    captured-lined target found =
        all-joined (HasLine i) (captured_at text_asked i m e target) (nodes target.tree.body)
        (all-weaker (λ (x : Placed Text). part_in target.tree.body x.0 ≡ Some x.1) (λ x. HaveLines i (captured_at text_asked i m e target x))
        (λ x leads. all-given (HasLine i) (captured_name text_asked i m e target x.0) (name_used x.1) []
        (λ n f. all-given (HasLine i) _ (passed_for text_asked target.tree e.arguments x.0 n) _
        (λ t g. all-mapped (HasLine i) (λ y. TwoMeanings (InMethod target) x.0 y (means text_words i m e.path y) (means text_words i target x.0 y)) (filter _ (free_names text_words.tests.same text_words.tests.is_pseudo t))
        (all-every _ (λ y. meanings-lined i target x.0 x.1 y _ _ found leads) (filter _ (free_names text_words.tests.same text_words.tests.is_pseudo t))))
        (all-where (HasLine i) _ (TwoMeanings (InMethod target) x.0 n _ _) (meanings-lined i target x.0 x.1 n _ _ found leads))) tt)
        (nodes target.tree.body) (nodes-lead target.tree.body))

    pub new-control-lined : (target : EntryOf Text) → HaveLines i (new_control text_asked i m e target)
    new-control-lined target =
        all-where-true (HasLine i) (not (makes_no_control text_asked i m e target)) (a_node (InMethod m) (above e.path)) (λ h. of (answered (unfolded text_asked target.tree e.arguments)) (negated _ h))
      where
        of : (o : Option (TreeOf Text)) → option_map_or (makes_control text_words.tests.form m.tree e.path) o false ≡ true → HasLine i (a_node (InMethod m) (above e.path))
        of None h = absurd (false≢true h)
        of (Some t) h = let leads = control-above text_words.tests.form m.tree e.path t h in node-lined i m (above e.path) leads.0 known leads.1

  module _ (m : EntryOf Text) (x : Text) (known : IsSpelledMethod m) where
    declarations-lined : HaveLines i (declarations text_asked m x)
    declarations-lined =
        all-both (HasLine i) (map (λ y. a_method m) (filter (text_words.tests.same x) m.tree.arguments)) _
        (all-mapped (HasLine i) (λ y. a_method m) (filter (text_words.tests.same x) m.tree.arguments) (all-every _ (λ y. whole-lined i (InMethod m)) (filter (text_words.tests.same x) m.tree.arguments)))
        (all-both (HasLine i) (map (λ y. a_method m) (filter (text_words.tests.same x) m.tree.body.temporaries)) _
        (all-mapped (HasLine i) (λ y. a_method m) (filter (text_words.tests.same x) m.tree.body.temporaries) (all-every _ (λ y. whole-lined i (InMethod m)) (filter (text_words.tests.same x) m.tree.body.temporaries)))
        (all-joined (HasLine i) (declarations_at text_asked m x) (nodes m.tree.body)
        (all-weaker (λ (e : Placed Text). part_in m.tree.body e.0 ≡ Some e.1) (λ e. HaveLines i (declarations_at text_asked m x e))
        (λ e at. all-mapped (HasLine i) (λ y. a_node (InMethod m) e.0) (filter (text_words.tests.same x) (declared_by e.1)) (all-every _ (λ y. node-lined i m e.0 e.1 known at) (filter (text_words.tests.same x) (declared_by e.1))))
        (nodes m.tree.body) (nodes-lead m.tree.body))))

    pub further-declarations-lined : HaveLines i (further_declarations text_asked m x)
    further-declarations-lined = all-cond (HasLine i) (is_declared_once text_asked m.tree x) [] (declarations text_asked m x) tt declarations-lined

    reads-lead : AllByRecursion (Leads m.tree.body) (reads_of text_asked m.tree x)
    reads-lead = paths-lead m.tree.body (λ e. is_some (read_scope text_asked m.tree x e))

    pub changed-names-lined : (e : LetOf Text) → HaveLines i (changed_names text_asked i m x e)
    changed-names-lined e =
        all-joined (HasLine i) (changed_at text_asked i m x e) (reads_of text_asked m.tree x)
        (all-weaker (Leads m.tree.body) (λ r. HaveLines i (changed_at text_asked i m x e r))
        (λ r at. all-joined (HasLine i) (changed_name text_asked i m x e r) (free_names text_words.tests.same text_words.tests.is_pseudo e.value)
        (all-every (λ n. HaveLines i (changed_name text_asked i m x e r n)) (λ n. all-where (HasLine i) _ (TwoMeanings (InMethod m) r n _ _) (meanings-lined i m r at.0 n _ _ known at.1)) (free_names text_words.tests.same text_words.tests.is_pseudo e.value)))
        (reads_of text_asked m.tree x) reads-lead)

    pub new-controls-lined : (e : LetOf Text) → HaveLines i (new_controls text_asked i m x e)
    new-controls-lined e = all-mapped (HasLine i) (λ r. a_node (InMethod m) (above r)) (filter makes (reads_of text_asked m.tree x)) (passing (reads_of text_asked m.tree x))
      where
        makes : List ℕ → Bool
        makes r = makes_control text_words.tests.form m.tree r e.value

        lined : (r : List ℕ) → makes r ≡ true → HasLine i (a_node (InMethod m) (above r))
        lined r h = let leads = control-above text_words.tests.form m.tree r e.value h in node-lined i m (above r) leads.0 known leads.1

        passing : (rs : List (List ℕ)) → AllByRecursion (λ r. HasLine i (a_node (InMethod m) (above r))) (filter makes rs)
        passing rs = all-weaker (λ r. makes r ≡ true) (λ r. HasLine i (a_node (InMethod m) (above r))) lined (filter makes rs) (all-passing makes rs)

    -- the assignment that a let is leads somewhere
    let-leads : (e : LetOf Text) → let_of text_asked m.tree x ≡ Some e → Leads m.tree.body (let_path e)
    let-leads e h = lets-lead m.tree x e h

    pub no-let-lined : HaveLines i (no_let text_asked i m x)
    no-let-lined =
        all-given (HasLine i) _ (let_of text_asked m.tree x) _
        (λ e h. all-cond (HasLine i) (is_let_form text_asked i m x e) [] (a_node (InMethod m) (let_path e) ∷ map (a_node (InMethod m)) (reads_of text_asked m.tree x)) tt (
          let at = let-leads e h in node-lined i m (let_path e) at.0 known at.1,
          all-mapped (HasLine i) (a_node (InMethod m)) (reads_of text_asked m.tree x)
              (all-weaker (Leads m.tree.body) (λ r. HasLine i (a_node (InMethod m) r)) (λ r at. node-lined i m r at.0 known at.1) (reads_of text_asked m.tree x) reads-lead),
        ))
        (all-both (HasLine i) (declarations text_asked m x) (nodes_that (is_assignment_of text_asked x) (InMethod m) m.tree.body) declarations-lined (nodes-lined i m (is_assignment_of text_asked x) known))
