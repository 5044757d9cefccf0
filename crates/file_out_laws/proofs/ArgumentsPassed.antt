-- A valid image passes and takes as many arguments as its selectors do; so a selector that the kernel does not speak of may have one more.
use Rattle.std.proofs.Common.{◌≡◌, ℕ, List, [], ◌∷◌, Some, slice_get, refl, sym, ap, ◌∙◌}
use Rattle.std.specs.Prelude.{Bool, true, false, ◌&&◌, nat_eq, if◌then◌else◌}
use Rattle.std.specs.List.{AllByRecursion, list_any}
use Rattle.std.proofs.lemmas.Bool.{false≢true}
use Rattle.rb_base.specs.Names.{text_eq}
use Rattle.token_model.specs.declared.kind.Dialect.{Dialect}
use Rattle.tree_model.specs.Tree.{TreeOf, var, literal, send, cascade, assign, block, brace, return, MessagesOf, no_messages, more_messages, SequenceOf, MethodOf}
use Rattle.tree_model.specs.Path.{count}
use Rattle.tree_model.specs.Nodes.{nodes}
use Rattle.image_model.specs.Image.{EntryOf, DoItOf, ImageOf}
use Rattle.image_model.specs.Words.{text_words}
use Rattle.image_model.specs.Valid.{IsUserMethod, IsUserDoIt, IsValid}
use Rattle.image_model.specs.Uses.{is_sender, has_message}
use Rattle.grammar_model.specs.Spelling.{SpellsDoIt, SpellsMethod}
use Rattle.file_model.specs.Filing.{Text}
use Rattle.file_model.specs.Fileable.{reading_of}
use Rattle.run_model.proofs.Finite.{by_cases}
use Rattle.run_model.proofs.RenamingLemmas.{text-same}
use Rattle.reread_law.specs.WholeTrees.{WellFormedDoIt, WellFormedMethod}
use Rattle.rename_model.specs.CommandWords.{arity, text_command_words}
use Rattle.rename_model.specs.Conditions.{speaks_of, is_no_kernel_selector}
use Rattle.mapped_model.proofs.RenamedVariableLemmas.{at-all}
use Rattle.rename_model.specs.NamesThere.{is_named_in_method}
use Rattle.rename_laws.proofs.Unnamed.{neither_left, neither_right}
use Rattle.parameter_laws.specs.Arities.{messages_pass, node_passes, PassesAsMany, MethodMayTake, MayTakeMore, IsPlainlyWritten}
use Rattle.parameter_laws.proofs.KernelApart.{methods-apart}
use Rattle.parameter_laws.proofs.UnreadImages.{node-fails}
use Rattle.file_out_laws.proofs.AritiesSpelled.{pattern-count, sequence-fits}

-- a valid image has no primitives but the kernel's, and its methods take as many arguments as their selectors do
module _ (dialect : Dialect) (kernel : ImageOf Text) (method_again : (kernel : Bool) (text : Text) (tree : MethodOf Text) → SpellsMethod dialect kernel text tree → WellFormedMethod kernel tree) where
  pub plainly-written : (ms : List (EntryOf Text)) → AllByRecursion (λ (m : EntryOf Text). m.kernel ≡ false → IsUserMethod (reading_of dialect kernel) m) ms → AllByRecursion IsPlainlyWritten ms
  plainly-written [] h = tt
  plainly-written (m ∷ ms) h =
      (record { no_primitive = λ e. (h.0 e).no_primitive; arguments = λ e. pattern-count m.tree.selector (method_again false m.source m.tree (h.0 e).spells).pattern }, plainly-written ms h.1)

module _ (s : Text) where
  -- a node that does not send a selector
  messages-kept : (k : ℕ) (ms : MessagesOf Text) → has_message text_eq s ms ≡ false → messages_pass text_eq s k ms ≡ true
  messages-kept k no_messages e = refl
  messages-kept k (more_messages u xs ms) e =
      (λ i. (if neither_left (text_eq s u) (has_message text_eq s ms) e i then nat_eq (count xs) k else true) && messages-kept k ms (neither_right (text_eq s u) (has_message text_eq s ms) e) i)

  node-kept : (k : ℕ) (u : TreeOf Text) → is_sender text_eq s u ≡ false → node_passes text_eq s k u ≡ true
  node-kept k (var n) e = refl
  node-kept k (literal l) e = refl
  node-kept k (send r u xs) e = ap (λ b. if b then nat_eq (count xs) k else true) e
  node-kept k (cascade r ms) e = messages-kept k ms e
  node-kept k (assign n t) e = refl
  node-kept k (block ps ts ss n) e = refl
  node-kept k (brace ts) e = refl
  node-kept k (return t) e = refl

  -- code that does not send it
  code-kept : (k : ℕ) (b : SequenceOf Text) → list_any (λ e. is_sender text_eq s e.1) (nodes b) ≡ false → PassesAsMany text_eq s k b
  code-kept k b h path u e = node-kept k u (node-fails (λ x. is_sender text_eq s x.1) b h path u e)

  module _ (dialect : Dialect) (kernel : ImageOf Text)
      (method_again : (kernel : Bool) (text : Text) (tree : MethodOf Text) → SpellsMethod dialect kernel text tree → WellFormedMethod kernel tree)
      (doit_again : (text : Text) (tree : SequenceOf Text) → SpellsDoIt dialect text tree → WellFormedDoIt tree) (x : Text) where
    -- a method of the kernel
    kernel-takes : (m : EntryOf Text) → speaks_of text_eq s m ≡ false → MethodMayTake s x (arity s) m
    kernel-takes m apart =
        let other = neither_left (text_eq s m.tree.selector) (list_any (λ e. is_sender text_eq s e.1) (nodes m.tree.body)) apart in
        record {
          passed = code-kept (arity s) m.tree.body (neither_right (text_eq s m.tree.selector) (list_any (λ e. is_sender text_eq s e.1) (nodes m.tree.body)) apart);
          taken = λ t. absurd (false≢true (sym other ∙ t));
          no_primitive = λ t. absurd (false≢true (sym other ∙ t));
          unnamed = λ t. absurd (false≢true (sym other ∙ t));
        }

    -- a method of the user
    user-takes : (m : EntryOf Text) → (text_eq s m.tree.selector ≡ true → is_named_in_method text_eq x m ≡ false) → IsUserMethod (reading_of dialect kernel) m → MethodMayTake s x (arity s) m
    user-takes m free user =
        let formed = method_again false m.source m.tree user.spells in
        record {
          passed = sequence-fits s m.tree.body formed.body.statements;
          taken = λ t. pattern-count m.tree.selector formed.pattern ∙ ap arity (sym (text-same s m.tree.selector t));
          no_primitive = λ t. user.no_primitive;
          unnamed = free;
        }

    methods-take : (ms : List (EntryOf Text)) → AllByRecursion (λ (m : EntryOf Text). m.kernel ≡ false → text_eq s m.tree.selector ≡ true → is_named_in_method text_eq x m ≡ false) ms → AllByRecursion (λ (m : EntryOf Text). m.kernel ≡ true → speaks_of text_eq s m ≡ false) ms →
        AllByRecursion (λ (m : EntryOf Text). m.kernel ≡ false → IsUserMethod (reading_of dialect kernel) m) ms → AllByRecursion (MethodMayTake s x (arity s)) ms
    methods-take [] f a u = tt
    methods-take (m ∷ ms) f a u = (by_cases m.kernel (λ k. kernel-takes m (a.0 k)) (λ k. user-takes m (f.0 k) (u.0 k)), methods-take ms f.1 a.1 u.1)

    doits-take : (ds : List (DoItOf Text)) → AllByRecursion (IsUserDoIt (reading_of dialect kernel)) ds → AllByRecursion (λ (d : DoItOf Text). PassesAsMany text_eq s (arity s) d.body) ds
    doits-take [] u = tt
    doits-take (d ∷ ds) u = (sequence-fits s d.body (doit_again d.source d.body u.0.spells).statements, doits-take ds u.1)

    -- a valid image, in which no method of the user for the selector has the name
    pub image-takes : (i : ImageOf Text) → IsValid text_words (reading_of dialect kernel) i → is_no_kernel_selector text_eq text_command_words i s ≡ true →
        ((j : ℕ) (m : EntryOf Text) → slice_get i.methods j ≡ Some m → m.kernel ≡ false → text_eq s m.tree.selector ≡ true → is_named_in_method text_eq x m ≡ false) → MayTakeMore s x (arity s) i
    image-takes i valid apart free = record {
      methods = methods-take i.methods (at-all _ i.methods free) (methods-apart i s apart) valid.user_methods;
      doits = doits-take i.doits valid.doits;
    }
