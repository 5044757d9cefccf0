-- Code that reads a name first unfolds to that with an expression there.
use Rattle.std.proofs.Common.{◌≡◌, ℕ, zero, suc, List, [], Option, Some, None, refl, sym, ap, ◌∙◌, subst}
use Rattle.std.specs.Prelude.{Bool, true, false, not, if◌then◌else◌, option_map, unwrap_or, codes}
use Rattle.rb_base.specs.Names.{text_eq}
use Rattle.tree_model.specs.Tree.{TreeOf, var, literal, send, cascade, assign, block, brace, return, TreesOf}
use Rattle.scope_model.specs.Control.{is_control}
use Rattle.scope_model.specs.SpecialNames.{is_pseudo_variable, control_form}
use Rattle.image_model.specs.Means.{of_instance, of_class_side, of_class, MeaningOf, pseudo, argument, temporary, variable, transcript, undeclared}
use Rattle.run_model.specs.Values.{Name}
use Rattle.run_model.specs.Shapes.{shape_of}
use Rattle.resolved_model.specs.ResolvedTrees.{of_local, Target, ResolvedTree, reading, sending, assigning, ResolvedTrees}
use Rattle.resolved_model.specs.ResolvedImages.{ResolvedImage}
use Rattle.resolved_model.specs.ResolvedEval.{reads_super}
use Rattle.resolved_model.specs.ResolvedShapes.{ResolvedBranch, plain_code, one_code, two_codes, with_repeat, ResolvedShape, chooses_way, repeats, as_message, resolved_shape}
use Rattle.resolved_model.specs.Resolving.{reference_of, target_of}
use Rattle.resolved_model.specs.Environments.{Declared, kind_in, place_in, target_by, target_in, tree_in, trees_in}
use Rattle.resolved_model.proofs.ShapeLemmas.{shape-in}
use Rattle.unfolded_calls.specs.Unfolding.{Allowed, StandIn, an_argument, a_self, a_nil, a_true, a_false, stand_in, IsFixed, Context, Actual, self_actual, nil_actual, true_actual, false_actual, number_actual, string_actual, symbol_actual, char_actual, class_actual, argument_actual, Simple, simple, simple_word, UnfoldsAll, UnfoldsFirst, first_read, first_receiver, first_choice, first_cascade, first_temporary, first_assignment, first_return, first_argument, first_of_cascade, first_item, UnfoldsFirstAmong, first_here, first_later}
use Rattle.unfolded_calls.specs.SameContexts.{IsOutside}
use Rattle.unfolded_calls.proofs.Untouched.{outer-target}
use Rattle.unfolded_places.specs.Becoming.{MakesNoControl}
use Rattle.unfolded_places.specs.Inlining.{PlainActual, plain_self, plain_nil, plain_true, plain_false, plain_number, plain_string, plain_symbol, plain_char, plain_argument, plain_class, IsFreeOf}
use Rattle.unfolded_places.proofs.ShapePairs.{open-pair, ShapePair, message_first, choices, turns, shape-pair}
use Rattle.unfolded_places.proofs.Congruence.{ControlLaw, super-named, so-message, still-message, trees-become, messages-become, plains-become}
use Rattle.unfolded_places.proofs.NamesThere.{word-read, local-read, outer-read}
use Rattle.unfolded_places.proofs.PlainThere.{plain-still, plain-inside}
use Rattle.let_laws.specs.ReadsFirst.{IsWithout, AreWithout, IsSimple, simple_plain, simple_literal, ReadsFirst, reads_here, by_receiver, by_argument, by_cascade, by_first_message, by_assignment, by_item, by_return, ReadsFirstAmong, by_this, by_later}
use Rattle.let_laws.specs.Lets.{without}
use Rattle.let_laws.proofs.OtherNames.{Lets}
use Rattle.let_laws.proofs.Kept.{trees-without, messages-without, kept-without}

-- a shape that is no loop
data IsNoLoop : ResolvedShape → Type 0 where
  no_choice : (a b : ResolvedBranch) → IsNoLoop (chooses_way a b)
  no_control : IsNoLoop as_message

abbrev MayBe : ResolvedShape → Type 0
MayBe (chooses_way a b) = Unit {0}
MayBe (repeats sense a b) = ⊥
MayBe as_message = Unit {0}

may-be : {y : ResolvedShape} → IsNoLoop y → MayBe y
may-be (no_choice a b) = tt
may-be no_control = tt

-- a send whose receiver is no block without parameters is no loop
no-loop : (s : Name) (r : ResolvedTree) (args : ResolvedTrees) → plain_code r ≡ None → IsNoLoop (resolved_shape s r args)
unfolding resolved_shape
no-loop s r args e =
    neither (text_eq s (codes "ifTrue:")) (one (one_code args) _ (λ c. no_choice _ _))
    (neither (text_eq s (codes "ifFalse:")) (one (one_code args) _ (λ c. no_choice _ _))
    (neither (text_eq s (codes "ifTrue:ifFalse:")) (one (two_codes args) _ (λ c. no_choice _ _))
    (neither (text_eq s (codes "ifFalse:ifTrue:")) (one (two_codes args) _ (λ c. no_choice _ _))
    (neither (text_eq s (codes "and:")) (one (one_code args) _ (λ c. no_choice _ _))
    (neither (text_eq s (codes "or:")) (one (one_code args) _ (λ c. no_choice _ _))
    (neither (text_eq s (codes "whileTrue:")) (never true)
    (neither (text_eq s (codes "whileFalse:")) (never false) no_control)))))))
  where
    neither : (b : Bool) {y z : ResolvedShape} → IsNoLoop y → IsNoLoop z → IsNoLoop (if b then y else z)
    neither true p q = p
    neither false p q = q

    one : {X : Type 0} (o : Option X) (go : X → ResolvedShape) → ((x : X) → IsNoLoop (go x)) → IsNoLoop (unwrap_or (option_map go o) as_message)
    one (Some x) go h = h x
    one None go h = no_control

    never : (sense : Bool) → IsNoLoop (with_repeat r args sense)
    never sense = subst (λ o. IsNoLoop (unwrap_or (option_map (λ a. unwrap_or (option_map (λ b. repeats sense a b) (one_code args)) as_message) o) as_message)) (sym e) no_control

-- what is plain names no further declarations where there are none
free-none : (t : TreeOf Name) → IsFreeOf [] t
free-none (var n) = λ p. refl
free-none (literal l) = tt
free-none (send r s args) = tt
free-none (cascade r ms) = tt
free-none (assign n t) = tt
free-none (block ps ts ss e) = tt
free-none (brace ts) = tt
free-none (return t) = tt

module _ (f : Name → MeaningOf Name) (x : Name) where
  -- what is plain is an actual, and always the same
  pub plain-actual : (g : Context) (A B : List Declared) (t : TreeOf Name) (a : StandIn) → Lets x g A B → IsWithout x t → PlainActual f B t a → Actual g (tree_in f A t) a
  unfolding is_pseudo_variable
  plain-actual g A B _ _ h w plain_self = subst (λ r. Actual g (reading r) a_self) (sym (word-read A (f (codes "self")) (codes "self") refl)) self_actual
  plain-actual g A B _ _ h w plain_nil = subst (λ r. Actual g (reading r) a_nil) (sym (word-read A (f (codes "nil")) (codes "nil") refl)) nil_actual
  plain-actual g A B _ _ h w plain_true = subst (λ r. Actual g (reading r) a_true) (sym (word-read A (f (codes "true")) (codes "true") refl)) true_actual
  plain-actual g A B _ _ h w plain_false = subst (λ r. Actual g (reading r) a_false) (sym (word-read A (f (codes "false")) (codes "false") refl)) false_actual
  plain-actual g A B _ _ h w (plain_number t z e) = number_actual t z e
  plain-actual g A B _ _ h w (plain_string t) = string_actual t
  plain-actual g A B _ _ h w (plain_symbol t) = symbol_actual t
  plain-actual g A B _ _ h w (plain_char b) = char_actual b
  plain-actual g A B _ _ h w (plain_argument n p k) =
      subst (λ r. Actual g (reading r) (an_argument (place_in B n))) (sym (local-read A (f n) n false p (h.kinds n w ∙ k))) (argument_actual (place_in A n) (place_in B n) (h.there n false w (h.kinds n w ∙ k)))
  plain-actual g A B _ _ h w (plain_class n c p k q) =
      subst (λ r. Actual g (reading r) (StandIn.a_class c)) (sym (outer-read A (f n) n p (h.kinds n w ∙ k) ∙ ap (λ m. reference_of m (place_in A n) n) q)) (class_actual c)

  pub plain-fixed : (B : List Declared) (t : TreeOf Name) (a : StandIn) → PlainActual f B t a → IsFixed a
  plain-fixed B _ _ plain_self = tt
  plain-fixed B _ _ plain_nil = tt
  plain-fixed B _ _ plain_true = tt
  plain-fixed B _ _ plain_false = tt
  plain-fixed B _ _ (plain_number t z e) = tt
  plain-fixed B _ _ (plain_string t) = tt
  plain-fixed B _ _ (plain_symbol t) = tt
  plain-fixed B _ _ (plain_char b) = tt
  plain-fixed B _ _ (plain_argument n p k) = tt
  plain-fixed B _ _ (plain_class n c p k q) = tt

  plain-simple : (g : Context) (A B : List Declared) (t : TreeOf Name) (a : StandIn) → Lets x g A B → IsWithout x t → PlainActual f B t a → Simple g (tree_in f A t) (tree_in f B t)
  plain-simple g A B t a h w p =
      subst (λ y. Simple g (tree_in f A t) y) (sym ((plain-inside f B [] t a p (free-none t)).0 ∙ ap stand_in (plain-still f B t a p))) (simple a (plain-actual g A B t a h w p) (plain-fixed B t a p))

  node-simple : (g : Context) (A B : List Declared) (t : TreeOf Name) → Lets x g A B → IsSimple f B x t → Simple g (tree_in f A t) (tree_in f B t)
  node-simple g A B t h (simple_plain _ a p w) = plain-simple g A B t a h w p
  node-simple g A B _ h (simple_literal n) = simple_word n

module _ (control : ControlLaw) (i : ResolvedImage) (gone : Allowed) (f : Name → MeaningOf Name) (outside : (n : Name) → IsOutside (f n)) (x : Name) (kept : (s : Name) → gone.is_gone s ≡ false) (proper : is_pseudo_variable x ≡ false) (g : Context) (A B : List Declared) (lets : Lets x g A B) (kind : kind_in A x ≡ Some true) (e : TreeOf Name) (no_super : e ≡ var (codes "super") → ⊥) where
  -- a message that is no control send
  message-shape : (E : List Declared) (s : Name) (r : TreeOf Name) (args : TreesOf Name) → is_control control_form (send r s args) ≡ false → resolved_shape s (tree_in f E r) (trees_in f E args) ≡ as_message
  message-shape E s r args h = shape-in f E s r args ∙ so-message control f f E E (shape_of s r args) (control s r args ∙ ap not h)

  x-read : tree_in f A (var x) ≡ reading (of_local (place_in A x))
  x-read = ap reading (local-read A (f x) x true proper kind)

  -- the node is no block, and neither it nor what stands for it is `super`
  first-open : {n : ℕ} {t t' : TreeOf Name} → ReadsFirst f B x e n t t' → plain_code (tree_in f A t) ≡ None
  first-open reads_here = refl
  first-open (by_receiver s args m w p) = refl
  first-open (by_argument r s p m m' q) = refl
  first-open (by_cascade ms w p) = refl
  first-open (by_first_message r s ms p v q) = refl
  first-open (by_assignment y ne p) = refl
  first-open (by_item q) = refl
  first-open (by_return p) = refl

  never-super : (b : Bool) → (b ≡ true → ⊥) → b ≡ false
  never-super true h = absurd (h refl)
  never-super false h = refl

  first-plain : {n : ℕ} {t t' : TreeOf Name} → ReadsFirst f B x e n t t' → (reads_super (tree_in f A t) ≡ false) × (reads_super (tree_in f B t') ≡ false)
  first-plain reads_here = (ap reads_super x-read, never-super (reads_super (tree_in f B e)) (λ h. no_super (super-named f B e h)))
  first-plain (by_receiver s args m w p) = (refl, refl)
  first-plain (by_argument r s p m m' q) = (refl, refl)
  first-plain (by_cascade ms w p) = (refl, refl)
  first-plain (by_first_message r s ms p v q) = (refl, refl)
  first-plain (by_assignment y ne p) = (refl, refl)
  first-plain (by_item q) = (refl, refl)
  first-plain (by_return p) = (refl, refl)

  -- another name is assigned
  assigned-first : (y : Name) (n : ℕ) (t t' : ResolvedTree) → text_eq y x ≡ false → UnfoldsFirst i gone g (place_in A x) (tree_in f B e) n t t' → UnfoldsFirst i gone g (place_in A x) (tree_in f B e) (suc n) (assigning (target_in A (f y) y) t) (assigning (target_in B (f y) y) t')
  assigned-first y n t t' ne p =
      subst (λ o. UnfoldsFirst i gone g (place_in A x) (tree_in f B e) (suc n) (assigning (target_in A (f y) y) t) (assigning (if is_pseudo_variable y then Target.to_fixed y else target_by o (place_in B y) (f y) y) t')) (lets.kinds y ne) (by (is_pseudo_variable y) (kind_in A y) refl)
    where
      by : (b : Bool) (o : Option Bool) → kind_in A y ≡ o →
          UnfoldsFirst i gone g (place_in A x) (tree_in f B e) (suc n) (assigning (if b then Target.to_fixed y else target_by o (place_in A y) (f y) y) t) (assigning (if b then Target.to_fixed y else target_by o (place_in B y) (f y) y) t')
      by true o q = first_assignment (Target.to_fixed y) tt p
      by false (Some true) q = first_temporary (place_in A y) (place_in B y) (lets.there y true ne q) p
      by false (Some false) q = first_assignment (Target.to_fixed y) tt p
      by false None q =
          subst (λ z. UnfoldsFirst i gone g (place_in A x) (tree_in f B e) (suc n) (assigning (target_of (f y) (place_in A y) y) t) (assigning z t')) (anywhere (f y) (outside y))
          (first_assignment (target_of (f y) (place_in A y) y) (outer-target i gone f outside (f y) (place_in A y) y (outside y)) p)
        where
          anywhere : (m : MeaningOf Name) → IsOutside m → target_of m (place_in A y) y ≡ target_of m (place_in B y) y
          anywhere pseudo h = refl
          anywhere (argument s) h = absurd h
          anywhere (temporary s) h = absurd h
          anywhere (variable of_instance c) h = refl
          anywhere (variable of_class_side c) h = refl
          anywhere (variable of_class c) h = refl
          anywhere (MeaningOf.a_class c) h = refl
          anywhere transcript h = refl
          anywhere undeclared h = refl

  -- a send whose receiver reads first
  received-first : (n : ℕ) (s : Name) (r r' : TreeOf Name) (args : TreesOf Name) → MakesNoControl (send r s args) (send r' s args) → AreWithout x args → ReadsFirst f B x e n r r' →
      UnfoldsFirst i gone g (place_in A x) (tree_in f B e) n (tree_in f A r) (tree_in f B r') → UnfoldsFirst i gone g (place_in A x) (tree_in f B e) (suc n) (tree_in f A (send r s args)) (tree_in f B (send r' s args))
  received-first n s r r' args m w q p =
      by (resolved_shape s (tree_in f A r) (trees_in f A args)) (resolved_shape s (tree_in f B r') (trees_in f B args)) refl refl
      (shape-pair i gone s (tree_in f A r) (tree_in f B r') (trees_in f A args) (trees_in f B args) (open-pair i gone _ _ (first-open q))
      (plains-become control i gone (without x) f f (Lets x) (kept-without control i gone f outside x kept) g A B args args lets (trees-without x A B args w)))
    where
      plain : (reads_super (tree_in f A r) ≡ false) × (reads_super (tree_in f B r') ≡ false)
      plain = first-plain q

      args-so : UnfoldsAll i gone g (trees_in f A args) (trees_in f B args)
      args-so = trees-become control i gone (without x) f f (Lets x) (kept-without control i gone f outside x kept) g A B args args lets (trees-without x A B args w)

      by : (y y' : ResolvedShape) → resolved_shape s (tree_in f A r) (trees_in f A args) ≡ y → resolved_shape s (tree_in f B r') (trees_in f B args) ≡ y' → ShapePair i gone g y y' →
          UnfoldsFirst i gone g (place_in A x) (tree_in f B e) (suc n) (sending (tree_in f A r) s (trees_in f A args)) (sending (tree_in f B r') s (trees_in f B args))
      by _ _ h h' (message_first y) = first_receiver h (still-message control f f A B s r r' args args m h) (kept s) plain.0 plain.1 p args-so
      by _ _ h h' (choices {a = a} {a' = a'} {b = b} {b' = b'} u v) = first_choice a a' b b' h h' p u v
      by _ _ h h' (turns u v) = absurd (may-be (subst IsNoLoop h (no-loop s (tree_in f A r) (trees_in f A args) (first-open q))))

  mutual
    pub reads-first : {n : ℕ} {t t' : TreeOf Name} → ReadsFirst f B x e n t t' → UnfoldsFirst i gone g (place_in A x) (tree_in f B e) n (tree_in f A t) (tree_in f B t')
    reads-first reads_here = subst (λ y. UnfoldsFirst i gone g (place_in A x) (tree_in f B e) zero y (tree_in f B e)) (sym x-read) first_read
    reads-first (by_receiver {n = n} {r = r} {r' = r'} s args m w p) = received-first n s r r' args m w p (reads-first p)
    reads-first (by_argument {args = args} {args' = args'} r s p m m' q) =
        first_argument (message-shape A s r args m) (message-shape B s r args' m') (kept s) (node-simple f x g A B r lets p) (among-first q)
    reads-first (by_cascade ms w p) = first_cascade (reads-first p) (messages-become control i gone (without x) f f (Lets x) (kept-without control i gone f outside x kept) g A B ms ms lets (messages-without x A B ms w))
    reads-first (by_first_message r s ms p v q) =
        first_of_cascade (kept s) (node-simple f x g A B r lets p) (among-first q) (messages-become control i gone (without x) f f (Lets x) (kept-without control i gone f outside x kept) g A B ms ms lets (messages-without x A B ms v))
    reads-first (by_assignment {n = n} {t = t} {t' = t'} y ne p) = assigned-first y n (tree_in f A t) (tree_in f B t') ne (reads-first p)
    reads-first (by_item q) = first_item (among-first q)
    reads-first (by_return p) = first_return lets.returns (reads-first p)

    among-first : {n : ℕ} {ts ts' : TreesOf Name} → ReadsFirstAmong f B x e n ts ts' → UnfoldsFirstAmong i gone g (place_in A x) (tree_in f B e) n (trees_in f A ts) (trees_in f B ts')
    among-first (by_this ts w p) = first_here (reads-first p) (trees-become control i gone (without x) f f (Lets x) (kept-without control i gone f outside x kept) g A B ts ts lets (trees-without x A B ts w))
    among-first (by_later t p q) = first_later (node-simple f x g A B t lets p) (among-first q)
