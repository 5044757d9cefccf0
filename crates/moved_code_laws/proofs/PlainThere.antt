-- What a message passes is plain where the command says so and it is no temporary.
use Rattle.std.proofs.Common.{◌≡◌, ℕ, ◌+◌, List, Option, Some, None, refl, sym, ap, ◌∙◌, subst}
use Rattle.std.specs.Prelude.{Bool, true, false, ◌&&◌, ◌||◌, ◌==◌, is_some, if◌then◌else◌, codes}
use Rattle.std.proofs.lemmas.Bool.{false≢true}
use Rattle.rb_base.specs.Names.{text_eq}
use Rattle.tree_model.specs.Tree.{LiteralOf, number, str, symbol, char, array, bytes, word, TreeOf, var, literal, send, cascade, assign, block, brace, return, TreesOf, no_trees, more_trees}
use Rattle.tree_model.specs.Path.{nth, count}
use Rattle.scope_model.specs.declared.local.Local.{Local}
use Rattle.scope_model.specs.declared.local.Local.TheVariants.{Argument, Temporary, NotLocal}
use Rattle.scope_model.specs.SpecialNames.{is_pseudo_variable}
use Rattle.scope_model.specs.declared.local.ControlForm.{ControlForm}
use Rattle.scope_model.specs.declared.local.ControlForm.TheVariants.{OneBlock, TwoBlocks, Loop, NoControl}
use Rattle.scope_model.specs.Control.{is_plain_block, are_plain_blocks, meets}
use Rattle.scope_model.specs.Scope.{PlacedScope, method_scope, scopes_round, local_by}
use Rattle.image_model.specs.Image.{EntryOf, ImageOf}
use Rattle.image_model.specs.Words.{text_words}
use Rattle.image_model.specs.Chain.{chain}
use Rattle.image_model.specs.Means.{MeaningOf, pseudo, argument, temporary, variable, a_class, transcript, undeclared, means_by, means_outside}
use Rattle.run_model.specs.Values.{Name}
use Rattle.run_model.specs.Numbers.{numeral_integer}
use Rattle.run_model.proofs.Finite.{by_cases}
use Rattle.run_model.proofs.RenamingLemmas.{text-same}
use Rattle.resolved_model.specs.Environments.{kind_in, declared_in}
use Rattle.resolved_model.proofs.Environments.{kind_of, kind-scopes}
use Rattle.reread_law.specs.WellFormed.{NoWord, WellFormed}
use Rattle.unfolded_calls.specs.Unfolding.{StandIn, an_argument, a_self, a_nil, a_true, a_false, a_number, a_string, a_symbol, a_char}
use Rattle.unfolded_calls.specs.SameContexts.{IsOutside}
use Rattle.unfolded_calls.proofs.Untouched.{means-outside}
use Rattle.unfolded_places.specs.Inlining.{PlainActual, plain_self, plain_nil, plain_true, plain_false, plain_number, plain_string, plain_symbol, plain_char, plain_argument, plain_class}
use Rattle.resolved_model.specs.Environments.{place_in}
use Rattle.command_model.specs.Asked.{is_constant_text, text_asked}
use Rattle.command_model.specs.Plain.{is_atom_literal, is_plain_name, is_plain}
use Rattle.moved_code_laws.proofs.Saying.{said_by}

-- a message whose first argument is no block is no control send
pub no-control : (form : ControlForm) (r : TreeOf Name) (args : TreesOf Name) → ((t : TreeOf Name) → nth args 0 ≡ Some t → is_plain_block t ≡ false) → meets form r args ≡ false
no-control form r no_trees unblocked = by form
  where
    no : (b : Bool) → (b && false) ≡ false
    no true = refl
    no false = refl

    by : (form : ControlForm) → meets form r no_trees ≡ false
    by OneBlock = refl
    by TwoBlocks = refl
    by Loop = no (is_plain_block r)
    by NoControl = refl
no-control form r (more_trees t ts) unblocked = by form
  where
    blocked : are_plain_blocks (more_trees t ts) ≡ false
    blocked = ap (λ b. b && are_plain_blocks ts) (unblocked t refl)

    no : (b : Bool) → (b && false) ≡ false
    no true = refl
    no false = refl

    by : (form : ControlForm) → meets form r (more_trees t ts) ≡ false
    by OneBlock = ap (λ b. (count ts + 1 == 1) && b) blocked ∙ no (count ts + 1 == 1)
    by TwoBlocks = ap (λ b. (count ts + 1 == 2) && b) blocked ∙ no (count ts + 1 == 2)
    by Loop = ap (λ b. is_plain_block r && ((count ts + 1 == 1) && b)) blocked ∙ ap (λ b. is_plain_block r && b) (no (count ts + 1 == 1)) ∙ no (is_plain_block r)
    by NoControl = refl

-- a number that is there
pub some-there : {X : Type 0} (o : Option X) → is_some o ≡ true → (x : X) × (o ≡ Some x)
some-there None e = absurd (false≢true e)
some-there (Some x) e = (x, refl)

module _ (i : ImageOf Name) (m : EntryOf Name) (path : List ℕ) where
  -- what names mean outside the method, and the scopes round the place
  abbrev pub after : Name → MeaningOf Name
  after n = means_outside text_words i m.class m.meta n

  abbrev pub round : List (PlacedScope Name)
  round = scopes_round (method_scope m.tree) path

  -- something stands in for a node, and it is no block
  pub record IsPlain (t : TreeOf Name) : Type 0 where
    pub stand_in : StandIn
    pub plain : PlainActual after (declared_in round) t stand_in
    pub unblocked : is_plain_block t ≡ false

  -- a literal
  pub literal-plain : (l : LiteralOf Name) → is_atom_literal l ≡ true → NoWord l → IsPlain (literal l)
  literal-plain (number t) e w = let z = some-there (numeral_integer t) e in record { stand_in = a_number t; plain = plain_number t z.0 z.1; unblocked = refl }
  literal-plain (str t) e w = record { stand_in = a_string t; plain = plain_string t; unblocked = refl }
  literal-plain (symbol t) e w = record { stand_in = a_symbol t; plain = plain_symbol t; unblocked = refl }
  literal-plain (char b) e w = record { stand_in = a_char b; plain = plain_char b; unblocked = refl }
  literal-plain (array ls) e w = absurd (false≢true e)
  literal-plain (bytes ls) e w = absurd (false≢true e)
  literal-plain (word n) e w = absurd w

  -- a word
  word-plain : (n : Name) → (is_constant_text n || text_eq (codes "self") n) ≡ true → IsPlain (var n)
  word-plain n e =
      by_cases (text_eq (codes "nil") n) (λ t. so (codes "nil") t (record { stand_in = a_nil; plain = plain_nil; unblocked = refl }))
      (λ f. by_cases (text_eq (codes "true") n) (λ t. so (codes "true") t (record { stand_in = a_true; plain = plain_true; unblocked = refl }))
      (λ g. by_cases (text_eq (codes "false") n) (λ t. so (codes "false") t (record { stand_in = a_false; plain = plain_false; unblocked = refl }))
      (λ h. so (codes "self") (sym (λ k. (f k || (g k || h k)) || text_eq (codes "self") n) ∙ e) (record { stand_in = a_self; plain = plain_self; unblocked = refl }))))
    where
      so : (w : Name) → text_eq w n ≡ true → IsPlain (var w) → IsPlain (var n)
      so w t p = subst (λ x. IsPlain (var x)) (text-same w n t) p

  -- a name
  name-plain : (n : Name) → is_plain_name text_asked (if is_pseudo_variable n then pseudo else means_by (said_by round n) (after n)) n ≡ true → IsPlain (var n)
  name-plain n e = by_cases (is_pseudo_variable n) (λ t. word-plain n (subst (λ b. is_plain_name text_asked (if b then pseudo else means_by (said_by round n) (after n)) n ≡ true) t e)) proper
    where
      proper : is_pseudo_variable n ≡ false → IsPlain (var n)
      proper p =
          let said : said_by round n ≡ local_by text_eq round n = ap (λ b. if b then NotLocal else local_by text_eq round n) p in
          by (local_by text_eq round n) (kind-scopes round n) (subst (λ l. is_plain_name text_asked (means_by l (after n)) n ≡ true) said (subst (λ b. is_plain_name text_asked (if b then pseudo else means_by (said_by round n) (after n)) n ≡ true) p e))
        where
          outer : (g : MeaningOf Name) → after n ≡ g → IsOutside g → kind_in (declared_in round) n ≡ None → is_plain_name text_asked g n ≡ true → IsPlain (var n)
          outer pseudo q o k h = word-plain n h
          outer (argument scope) q o k h = absurd o
          outer (temporary scope) q o k h = absurd o
          outer (variable j c) q o k h = absurd (false≢true h)
          outer (a_class c) q o k h = record { stand_in = StandIn.a_class c; plain = plain_class n c p k q; unblocked = refl }
          outer transcript q o k h = absurd (false≢true h)
          outer undeclared q o k h = absurd (false≢true h)

          by : (l : Local) → kind_in (declared_in round) n ≡ kind_of l → is_plain_name text_asked (means_by l (after n)) n ≡ true → IsPlain (var n)
          by (Argument scope) k h = record { stand_in = an_argument (place_in (declared_in round) n); plain = plain_argument n p k; unblocked = refl }
          by (Temporary scope) k h = absurd (false≢true h)
          by NotLocal k h = outer (after n) refl (means-outside i.classes (chain text_eq i.classes m.class) m.meta n) k h

  pub tree-plain : (t : TreeOf Name) → is_plain text_asked i m path t ≡ true → WellFormed t → IsPlain t
  tree-plain (var n) e w = name-plain n e
  tree-plain (literal l) e w = literal-plain l e w.1
  tree-plain (send r s args) e w = absurd (false≢true e)
  tree-plain (cascade r ms) e w = absurd (false≢true e)
  tree-plain (assign n t) e w = absurd (false≢true e)
  tree-plain (block ps ts ss c) e w = absurd (false≢true e)
  tree-plain (brace ts) e w = absurd (false≢true e)
  tree-plain (return t) e w = absurd (false≢true e)
