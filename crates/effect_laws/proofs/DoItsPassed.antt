-- Do-its of a user stay do-its where messages in them pass other arguments.
use Rattle.std.proofs.Common.{◌≡◌, ◌⊎◌, Bool, true, false, List, [], ◌∷◌, Option, inl, inr, refl, sym, ap, subst}
use Rattle.std.specs.Prelude.{if◌then◌else◌, codes}
use Rattle.std.specs.List.{list_any}
use Rattle.rb_base.specs.Names.{text_eq}
use Rattle.token_model.specs.declared.kind.Dialect.TheVariants.{Second}
use Rattle.tree_model.specs.Tree.{TreeOf, var, literal, send, cascade, assign, block, brace, return, TreesOf, StatementsOf, no_statements, more_statements, SequenceOf}
use Rattle.tree_model.specs.Nodes.{tree_nodes, statements_nodes}
use Rattle.st_kernel.specs.Selectors.{is_reserved_selector}
use Rattle.file_model.specs.Filing.{Text}
use Rattle.file_model.specs.Forms.{Evaluates, arguments_of, name_in, Sent, sent_by, sent_in_statements, sent_of, form_of}
use Rattle.rename_model.specs.CommandWords.{text_command_words}
use Rattle.rename_model.specs.Conditions.{reflects}
use Rattle.rename_model.specs.ClassRenamed.{canonical}
use Rattle.command_model.specs.Walk.{Making, rebuilt, rebuilt_trees, rebuilt_statements}
use Rattle.command_model.specs.Parameters.{sequence_passed}
use Rattle.effect_laws.proofs.Nowhere.{passes, first_fails}
use Rattle.effect_laws.proofs.ArgumentsPassed.{making}
use Rattle.effect_laws.proofs.DoItsKept.{IsAlike, alike_form, reflective, receiver_plain, system_by, sent_side}

-- the selector of a message, after
abbrev pub selector_after : (s t : Text) → Text → Text
selector_after s t u = if text_eq s u then t else u

module _ (s t : Text) (passed : TreesOf Text → TreesOf Text) (taken : List Text → List Text)
    (new : (u : Text) → (selector_after s t u ≡ u) ⊎ (is_reserved_selector (selector_after s t u) ≡ false))
    (side : (u : Text) → text_eq (selector_after s t u) (codes "class") ≡ true → text_eq u (codes "class") ≡ true) where
  -- a node and arguments, after
  abbrev made : Making Text
  made = making s t passed taken

  abbrev arguments_after : Text → TreesOf Text → TreesOf Text
  arguments_after u xs = if text_eq s u then passed (rebuilt_trees made 1 xs) else rebuilt_trees made 1 xs

  -- a message stays a message
  stays_message : (r : TreeOf Text) (u : Text) (xs : TreesOf Text) → send (rebuilt made r) (selector_after s t u) (arguments_after u xs) ≡ rebuilt made (send r u xs)
  stays_message r u xs = by (text_eq s u)
    where
      by : (b : Bool) → send (rebuilt made r) (if b then t else u) (if b then passed (rebuilt_trees made 1 xs) else rebuilt_trees made 1 xs)
          ≡ (if b then send (rebuilt made r) t (passed (rebuilt_trees made 1 xs)) else send (rebuilt made r) u (rebuilt_trees made 1 xs))
      by true = refl
      by false = refl

  name_passed : (r : TreeOf Text) → name_in (rebuilt made r) ≡ name_in r
  name_passed (var n) = refl
  name_passed (literal l) = refl
  name_passed (send r u xs) = ap name_in (sym (stays_message r u xs))
  name_passed (cascade r ms) = refl
  name_passed (assign n r) = refl
  name_passed (block ps ds ss c) = refl
  name_passed (brace ts) = refl
  name_passed (return r) = refl

  -- what it says is a do-it where it was one
  passed_receiver : (r : TreeOf Text) (u : Text) (xs ys : TreesOf Text) → list_any (passes reflective) (tree_nodes (send r u xs)) ≡ false → IsAlike (sent_by (send r u xs)) (sent_by (send (rebuilt made r) (selector_after s t u) ys))
  passed_receiver (var n) u xs ys h =
      let m : Sent = record { class = n; meta = false; selector = u; arguments = arguments_of xs } in
      let now : Sent = record { class = n; meta = false; selector = selector_after s t u; arguments = arguments_of ys } in
      inr (m, now, refl, refl, new u, system_by n now refl refl (receiver_plain n u xs h))
  passed_receiver (literal l) u xs ys h = inl refl
  passed_receiver (send q v zs) u xs ys h =
      subst (λ (r : TreeOf Text). IsAlike (sent_by (send (send q v zs) u xs)) (sent_by (send r (selector_after s t u) ys))) (stays_message q v zs)
      (sent_side (selector_after s t) new side (text_eq v (codes "class")) (text_eq (selector_after s t v) (codes "class")) (name_in q) (name_in (rebuilt made q)) u xs ys (side v) (name_passed q))
  passed_receiver (cascade r ms) u xs ys h = inl refl
  passed_receiver (assign n r) u xs ys h = inl refl
  passed_receiver (block ps ds ss c) u xs ys h = inl refl
  passed_receiver (brace ts) u xs ys h = inl refl
  passed_receiver (return r) u xs ys h = inl refl

  passed_tree : (r : TreeOf Text) → list_any (passes reflective) (tree_nodes r) ≡ false → IsAlike (sent_by r) (sent_by (rebuilt made r))
  passed_tree (var n) h = inl refl
  passed_tree (literal l) h = inl refl
  passed_tree (send r u xs) h = subst (λ (q : TreeOf Text). IsAlike (sent_by (send r u xs)) (sent_by q)) (stays_message r u xs) (passed_receiver r u xs (arguments_after u xs) h)
  passed_tree (cascade r ms) h = inl refl
  passed_tree (assign n r) h = inl refl
  passed_tree (block ps ds ss c) h = inl refl
  passed_tree (brace ts) h = inl refl
  passed_tree (return r) h = inl refl

  passed_statements : (ts : List Text) (ss : StatementsOf Text) (b c : SequenceOf Text) → list_any (passes reflective) (statements_nodes 0 ss) ≡ false → b.statements ≡ ss → c.statements ≡ rebuilt_statements made 0 ss → IsAlike (sent_of b ts) (sent_of c ts)
  passed_statements (n ∷ ts) ss b c h p q = inl refl
  passed_statements [] no_statements b c h p q = inl (ap sent_in_statements q)
  passed_statements [] (more_statements x r (more_statements y u ss)) b c h p q = inl (ap sent_in_statements q)
  passed_statements [] (more_statements x r no_statements) b c h p q =
      subst (λ (o : Option Sent). IsAlike o (sent_in_statements c.statements)) (sym (ap sent_in_statements p))
      (subst (λ (o : Option Sent). IsAlike (sent_by r) o) (sym (ap sent_in_statements q)) (passed_tree r (first_fails reflective 0 (tree_nodes r) [] h).0))

  -- a do-it stays one
  pub passed_form : (b : SequenceOf Text) → reflects text_command_words b ≡ false → form_of Second false b ≡ Evaluates → form_of Second false (sequence_passed text_eq canonical s t passed taken b) ≡ Evaluates
  passed_form b h e =
      alike_form (sent_of b b.temporaries) (sent_of (sequence_passed text_eq canonical s t passed taken b) b.temporaries)
      (passed_statements b.temporaries b.statements b (sequence_passed text_eq canonical s t passed taken b) h refl refl) e
