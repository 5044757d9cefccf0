-- Code that becomes other code unfolds to it, where its parts do.
use Rattle.std.proofs.Common.{◌≡◌, ℕ, List, [], ◌∷◌, length, Option, Some, None, refl, sym, ap, ◌∙◌, subst}
use Rattle.std.specs.Prelude.{Bool, true, false, not, if◌then◌else◌, replicate, codes}
use Rattle.std.proofs.lemmas.List.{length-replicate}
use Rattle.std.proofs.lemmas.Bool.{not-true}
use Rattle.rb_base.specs.Names.{text_eq}
use Rattle.scope_model.specs.SpecialNames.{is_pseudo_variable, control_form}
use Rattle.scope_model.specs.Control.{meets, is_control}
use Rattle.tree_model.specs.Tree.{no_trees, more_trees, TreeOf, var, literal, send, cascade, assign, block, brace, return, TreesOf, MessagesOf, StatementsOf, SequenceOf}
use Rattle.image_model.specs.Means.{of_instance, of_class_side, of_class, MeaningOf, pseudo, argument, temporary, variable, a_class, transcript, undeclared}
use Rattle.run_model.specs.Values.{Name}
use Rattle.run_model.specs.Shapes.{Shape, two_ways, loops, a_message, is_message, shape_of}
use Rattle.run_model.proofs.RenamingLemmas.{text-same}
use Rattle.resolved_model.specs.ResolvedTrees.{of_word, ResolvedTree, reading, assigning, block_of, ResolvedStatements}
use Rattle.resolved_model.specs.ResolvedImages.{ResolvedImage}
use Rattle.resolved_model.specs.ResolvedEval.{reads_super}
use Rattle.resolved_model.specs.ResolvedShapes.{plain_code, as_message, resolved_shape}
use Rattle.resolved_model.specs.Environments.{Declared, opened, kind_in, place_in, reference_by, target_in, tree_in, trees_in, messages_in, statements_in, code_in}
use Rattle.resolved_model.proofs.ShapeLemmas.{shape_in, shape-in}
use Rattle.unfolded_calls.specs.Unfolding.{Allowed, shared, staying, Context, scoped, in_closure, Unfolds, same_constant, same_cascade, same_block, same_brace, same_return, UnfoldsAll, same_none, same_more, UnfoldsMessages, same_end, same_next, UnfoldsLines, same_stop, same_line, UnfoldsCode, same_code}
use Rattle.unfolded_calls.proofs.Untouched.{staying-all}
use Rattle.unfolded_places.specs.Becoming.{Change, MakesNoControl, Becomes, at_part, at_literal, at_store, in_send, in_cascade, in_assign, in_block, in_brace, in_return, BecomeAll, all_none, all_more, BecomeMessages, messages_none, messages_more, BecomeLines, lines_none, lines_more}
use Rattle.unfolded_places.proofs.ShapePairs.{CodePair, neither, both, CodePairs, no_pairs, more_pairs, sending-pair}

-- a send is a message exactly where it is no control send
abbrev pub ControlLaw : Type 0
ControlLaw = (s : Name) (r : TreeOf Name) (args : TreesOf Name) → is_message (shape_of s r args) ≡ not (meets (control_form s) r args)

-- a node that is `super`
pub super-named : (f : Name → MeaningOf Name) (A : List Declared) (t : TreeOf Name) → reads_super (tree_in f A t) ≡ true → t ≡ var (codes "super")
super-named f A (var n) e = by (is_pseudo_variable n) (kind_in A n) (f n) e
  where
    yes : text_eq n (codes "super") ≡ true → var n ≡ var (codes "super")
    yes e = ap (λ x. var x) (text-same n (codes "super") e)

    by : (b : Bool) (o : Option Bool) (m : MeaningOf Name) → reads_super (reading (if b then of_word n else reference_by o (place_in A n) m n)) ≡ true → var n ≡ var (codes "super")
    by true o m e = yes e
    by false (Some b) m e = absurd (cc)
    by false None pseudo e = yes e
    by false None (argument scope) e = absurd (cc)
    by false None (temporary scope) e = absurd (cc)
    by false None (variable of_instance c) e = absurd (cc)
    by false None (variable of_class_side c) e = absurd (cc)
    by false None (variable of_class c) e = absurd (cc)
    by false None (a_class c) e = absurd (cc)
    by false None transcript e = absurd (cc)
    by false None undeclared e = absurd (cc)
super-named f A (literal l) e = absurd (cc)
super-named f A (send r s args) e = absurd (cc)
super-named f A (cascade r ms) e = absurd (cc)
super-named f A (assign n t) e = absurd (cc)
super-named f A (block ps ts ss n) e = absurd (cc)
super-named f A (brace ts) e = absurd (cc)
super-named f A (return t) e = absurd (cc)

-- a send that is a message becomes one
module _ (control : ControlLaw) (f f' : Name → MeaningOf Name) (A B : List Declared) where
  pub message-so : (x : Shape) → shape_in f A x ≡ as_message → is_message x ≡ true
  message-so (two_ways a b) e = absurd (cc)
  message-so (loops sense a b) e = absurd (cc)
  message-so a_message e = refl

  pub so-message : (x : Shape) → is_message x ≡ true → shape_in f' B x ≡ as_message
  so-message (two_ways a b) e = absurd (cc)
  so-message (loops sense a b) e = absurd (cc)
  so-message a_message e = refl

  pub still-message : (s : Name) (r r' : TreeOf Name) (args args' : TreesOf Name) → MakesNoControl (send r s args) (send r' s args') →
      resolved_shape s (tree_in f A r) (trees_in f A args) ≡ as_message → resolved_shape s (tree_in f' B r') (trees_in f' B args') ≡ as_message
  still-message s r r' args args' h e =
      shape-in f' B s r' args' ∙ so-message (shape_of s r' args')
      (control s r' args' ∙ ap not (h (not-true (meets (control_form s) r args) (sym (control s r args) ∙ message-so (shape_of s r args) (sym (shape-in f A s r args) ∙ e)))))

module _ (control : ControlLaw) (i : ResolvedImage) (gone : Allowed) (c : Change) (f f' : Name → MeaningOf Name) (Fits : Context → List Declared → List Declared → Type 0) where
  -- The contexts that fit two lists of declarations: entering a scope and a closure keeps them; and in them parts unfold, also where they are blocks that may be run in place, assignments do, and returns and `super` may stand as said.
  pub record IsKept : Type 0 where
    pub scope : (g : Context) (A B : List Declared) (ps ts : List Name) → Fits g A B → Fits (scoped (length ps) (replicate (length ts) shared) g) (opened ps ts A) (opened ps ts B)
    pub closure : (g : Context) (A B : List Declared) → Fits g A B → Fits (in_closure g) A B
    pub part : (g : Context) (A B : List Declared) (t u : TreeOf Name) → Fits g A B → c.part A B t u → Unfolds i gone g (tree_in f A t) (tree_in f' B u)
    pub blocked : (g : Context) (A B : List Declared) (t u : TreeOf Name) → Fits g A B → c.part A B t u → CodePair i gone g (plain_code (tree_in f A t)) (plain_code (tree_in f' B u))
    pub sent : (s : Name) → c.sends s → gone.is_gone s ≡ false
    pub assigned : (g : Context) (A B : List Declared) (n : Name) (x x' : ResolvedTree) → Fits g A B → c.assigns A B n → Unfolds i gone g x x' → Unfolds i gone g (assigning (target_in A (f n) n) x) (assigning (target_in B (f' n) n) x')
    pub stored : (g : Context) (A B : List Declared) (s n : Name) (t : TreeOf Name) (x' : ResolvedTree) → Fits g A B → c.stores A B s n → is_control control_form (send (var (codes "self")) s (more_trees t no_trees)) ≡ false →
        Unfolds i gone g (tree_in f A t) x' → Unfolds i gone g (tree_in f A (send (var (codes "self")) s (more_trees t no_trees))) (assigning (target_in B (f' n) n) x')
    pub returned : (g : Context) (A B : List Declared) → Fits g A B → c.returns → g.returns ≡ true
    pub above : (g : Context) (A B : List Declared) → Fits g A B → c.supers → g.supers ≡ true

module _ (control : ControlLaw) (i : ResolvedImage) (gone : Allowed) (c : Change) (f f' : Name → MeaningOf Name) (Fits : Context → List Declared → List Declared → Type 0) (k : IsKept control i gone c f f' Fits) where
  -- the number of temporaries
  pub count-block : {g : Context} (p n : ℕ) (ss ss' : ResolvedStatements) → UnfoldsLines i gone (scoped p (replicate n shared) (in_closure g)) ss ss' → Unfolds i gone g (block_of p n ss) (block_of p n ss')
  count-block {g} p n ss ss' h =
      subst (λ m. Unfolds i gone g (block_of p n ss) (block_of p m ss')) (staying-all n)
      (subst (λ m. Unfolds i gone g (block_of p m ss) (block_of p (staying (replicate n shared)) ss')) (length-replicate n shared) (same_block p (replicate n shared) h))

  pub count-code : {g : Context} (p n : ℕ) (ss ss' : ResolvedStatements) → UnfoldsLines i gone (scoped p (replicate n shared) g) ss ss' →
      UnfoldsCode i gone g (record { parameters = p; temporaries = n; statements = ss }) (record { parameters = p; temporaries = n; statements = ss' })
  count-code {g} p n ss ss' h =
      subst (λ m. UnfoldsCode i gone g (record { parameters = p; temporaries = n; statements = ss }) (record { parameters = p; temporaries = m; statements = ss' })) (staying-all n)
      (subst (λ m. UnfoldsCode i gone g (record { parameters = p; temporaries = m; statements = ss }) (record { parameters = p; temporaries = staying (replicate n shared); statements = ss' })) (length-replicate n shared) (same_code p (replicate n shared) h))

  mutual
    pub tree-becomes : (g : Context) (A B : List Declared) (t t' : TreeOf Name) → Fits g A B → Becomes c A B t t' → Unfolds i gone g (tree_in f A t) (tree_in f' B t')
    tree-becomes g A B t t' h (at_part p) = k.part g A B t t' h p
    tree-becomes g A B _ _ h (at_literal l) = same_constant l
    tree-becomes g A B _ _ h (at_store {t = t} {t' = t'} s n m e p) = k.stored g A B s n t (tree_in f' B t') h m e (tree-becomes g A B t t' h p)
    tree-becomes g A B _ _ h (in_send {r = r} {r' = r'} {args = args} {args' = args'} s m u n p q) =
        sending-pair i gone (λ e. k.above g A B h (u (super-named f A r e))) (k.sent s m) (still-message control f f' A B s r r' args args' n)
        (tree-becomes g A B r r' h p) (trees-become g A B args args' h q) (plain-becomes g A B r r' h p) (plains-become g A B args args' h q)
    tree-becomes g A B _ _ h (in_cascade {r = r} {r' = r'} {ms = ms} {ms' = ms'} p q) = same_cascade (tree-becomes g A B r r' h p) (messages-become g A B ms ms' h q)
    tree-becomes g A B _ _ h (in_assign {t = t} {t' = t'} n m p) = k.assigned g A B n (tree_in f A t) (tree_in f' B t') h m (tree-becomes g A B t t' h p)
    tree-becomes g A B _ _ h (in_block {ss = ss} {ss' = ss'} ps ts e e' p) =
        count-block (length ps) (length ts) (statements_in f (opened ps ts A) ss) (statements_in f' (opened ps ts B) ss')
        (lines-become (scoped (length ps) (replicate (length ts) shared) (in_closure g)) (opened ps ts A) (opened ps ts B) ss ss' (k.scope (in_closure g) A B ps ts (k.closure g A B h)) p)
    tree-becomes g A B _ _ h (in_brace {ts = ts} {ts' = ts'} p) = same_brace (trees-become g A B ts ts' h p)
    tree-becomes g A B _ _ h (in_return {t = t} {t' = t'} r p) = same_return (k.returned g A B h r) (tree-becomes g A B t t' h p)

    pub trees-become : (g : Context) (A B : List Declared) (ts ts' : TreesOf Name) → Fits g A B → BecomeAll c A B ts ts' → UnfoldsAll i gone g (trees_in f A ts) (trees_in f' B ts')
    trees-become g A B _ _ h all_none = same_none
    trees-become g A B _ _ h (all_more {t = t} {t' = t'} {ts = ts} {ts' = ts'} p q) = same_more (tree-becomes g A B t t' h p) (trees-become g A B ts ts' h q)

    pub messages-become : (g : Context) (A B : List Declared) (ms ms' : MessagesOf Name) → Fits g A B → BecomeMessages c A B ms ms' → UnfoldsMessages i gone g (messages_in f A ms) (messages_in f' B ms')
    messages-become g A B _ _ h messages_none = same_end
    messages-become g A B _ _ h (messages_more {args = args} {args' = args'} {ms = ms} {ms' = ms'} s m p q) = same_next s (k.sent s m) (trees-become g A B args args' h p) (messages-become g A B ms ms' h q)

    pub lines-become : (g : Context) (A B : List Declared) (ss ss' : StatementsOf Name) → Fits g A B → BecomeLines c A B ss ss' → UnfoldsLines i gone g (statements_in f A ss) (statements_in f' B ss')
    lines-become g A B _ _ h lines_none = same_stop
    lines-become g A B _ _ h (lines_more {t = t} {t' = t'} {ss = ss} {ss' = ss'} n n' p q) = same_line (tree-becomes g A B t t' h p) (lines-become g A B ss ss' h q)

    -- a block without parameters that may be run in place
    plain-becomes : (g : Context) (A B : List Declared) (t t' : TreeOf Name) → Fits g A B → Becomes c A B t t' → CodePair i gone g (plain_code (tree_in f A t)) (plain_code (tree_in f' B t'))
    plain-becomes g A B t t' h (at_part p) = k.blocked g A B t t' h p
    plain-becomes g A B _ _ h (at_literal l) = neither
    plain-becomes g A B _ _ h (at_store s n m e p) = neither
    plain-becomes g A B _ _ h (in_send s m u n p q) = neither
    plain-becomes g A B _ _ h (in_cascade p q) = neither
    plain-becomes g A B _ _ h (in_assign n m p) = neither
    plain-becomes g A B _ _ h (in_block {ss = ss} {ss' = ss'} [] ts e e' p) =
        both (count-code 0 (length ts) (statements_in f (opened [] ts A) ss) (statements_in f' (opened [] ts B) ss')
        (lines-become (scoped 0 (replicate (length ts) shared) g) (opened [] ts A) (opened [] ts B) ss ss' (k.scope g A B [] ts h) p))
    plain-becomes g A B _ _ h (in_block (x ∷ ps) ts e e' p) = neither
    plain-becomes g A B _ _ h (in_brace p) = neither
    plain-becomes g A B _ _ h (in_return r p) = neither

    pub plains-become : (g : Context) (A B : List Declared) (ts ts' : TreesOf Name) → Fits g A B → BecomeAll c A B ts ts' → CodePairs i gone g (trees_in f A ts) (trees_in f' B ts')
    plains-become g A B _ _ h all_none = no_pairs
    plains-become g A B _ _ h (all_more {t = t} {t' = t'} {ts = ts} {ts' = ts'} p q) = more_pairs (plain-becomes g A B t t' h p) (plains-become g A B ts ts' h q)

  -- a sequence with arguments
  pub code-becomes : (g : Context) (A B : List Declared) (ps : List Name) (b b' : SequenceOf Name) → Fits g A B → b.temporaries ≡ b'.temporaries → BecomeLines c (opened ps b.temporaries A) (opened ps b.temporaries B) b.statements b'.statements →
      UnfoldsCode i gone g (code_in f A ps b) (code_in f' B ps b')
  code-becomes g A B ps b b' h e p =
      subst (λ ts. UnfoldsCode i gone g (code_in f A ps b) (record { parameters = length ps; temporaries = length ts; statements = statements_in f' (opened ps ts B) b'.statements })) e
      (count-code (length ps) (length b.temporaries) (statements_in f (opened ps b.temporaries A) b.statements) (statements_in f' (opened ps b.temporaries B) b'.statements)
      (lines-become (scoped (length ps) (replicate (length b.temporaries) shared) g) (opened ps b.temporaries A) (opened ps b.temporaries B) b.statements b'.statements (k.scope g A B ps b.temporaries h) p))
