-- The conditions of a command that changes code in their list, and by name.
use Rattle.std.proofs.Common.{◌≡◌, List, [], ◌∷◌, ◌++◌, Some}
use Rattle.std.specs.Prelude.{ℕ, Bool, length}
use Rattle.std.specs.List.{AllByRecursion}
use Rattle.std.specs.Option.{option_map_or}
use Rattle.tree_model.specs.Tree.{LiteralOf}
use Rattle.scope_model.proofs.ListsOfNames.{AllByRecursion-append}
use Rattle.image_model.specs.Image.{EntryOf, ImageOf}
use Rattle.command_model.specs.Parts.{Part}
use Rattle.command_model.specs.Commands.{CommandOf, AddParameter, RemoveParameter, AbstractInstVar, ExtractMethod, InlineMethod, ExtractTemp, InlineTemp, RenameTemp}
use Rattle.command_model.specs.Conditions.{AtPart, ConditionOf, SelectorFresh, Arity, Inlinable, PlainActuals, NoCapture, NoNewControl, AtomLiteral, Shallow}
use Rattle.command_model.specs.Asked.{AskedOf}
use Rattle.command_model.specs.Places.{SendOf}
use Rattle.command_model.specs.Extracted.{free_temporaries}
use Rattle.command_model.specs.CodeEffects.{part_at, send_at, target_of}
use Rattle.command_model.specs.CodeNeeds.{in_no_implementor, target_needs}
use Rattle.command_model.specs.Needs.{needs}
use Rattle.command_model.specs.Allowed.{Meets}
use Rattle.command_model.specs.CodeAllowed.{MayAddParameter, MayRemoveParameter, MayAbstractVariable, MayExtractMethod, MayInlineMethod, MayExtractTemporary, MayInlineTemporary, MayRenameTemporary}
use Rattle.command_model.proofs.Lists.{in-both, when-given, if-given}

module _ {N : Type 0} (a : AskedOf N) (i : ImageOf N) where
  -- each condition of a command holds
  abbrev Each : CommandOf N → Type 0
  Each command = AllByRecursion (Meets a i command) (needs a i command)

  module _ (s t x : N) (passed : LiteralOf N) where
    abbrev adding : CommandOf N
    adding = AddParameter s t x passed

    pub may-add : Each adding → MayAddParameter a i adding s t x
    may-add h =
        let more = h.1.1.1.1.1.1.1.1 in
        let both = in-both (Meets a i adding) (in_no_implementor a i s x) (AtomLiteral ∷ Shallow ∷ []) more in
        record {
          no_reflection = h.0;
          good_selector = h.1.0;
          old_not_kernel = h.1.1.0;
          known_selector = h.1.1.1.0;
          one_more = h.1.1.1.1.0;
          new_not_kernel = h.1.1.1.1.1.0;
          fresh_selector = h.1.1.1.1.1.1.0;
          good_name = h.1.1.1.1.1.1.1.0;
          new_to_methods = both.0;
          atom_literal = both.1.0;
          shallow = both.1.1.0;
        }

    pub each-added : MayAddParameter a i adding s t x → Each adding
    each-added h = (
      h.no_reflection,
      (
        h.good_selector,
        (
          h.old_not_kernel,
          (
            h.known_selector,
            (
              h.one_more,
              (
                h.new_not_kernel,
                (
                  h.fresh_selector,
                  (
                    h.good_name,
                    AllByRecursion-append (Meets a i adding) (in_no_implementor a i s x) (AtomLiteral ∷ Shallow ∷ []) h.new_to_methods (h.atom_literal, (h.shallow, tt)),
                  ),
                ),
              ),
            ),
          ),
        ),
      ),
    )

  module _ (s : N) (k : ℕ) (t : N) where
    abbrev removing : CommandOf N
    removing = RemoveParameter s k t

    pub may-remove : Each removing → MayRemoveParameter a i removing s k t
    may-remove h = record {
      no_reflection = h.0;
      good_selector = h.1.0;
      old_not_kernel = h.1.1.0;
      known_selector = h.1.1.1.0;
      one_less = h.1.1.1.1.0;
      new_not_kernel = h.1.1.1.1.1.0;
      fresh_selector = h.1.1.1.1.1.1.0;
      unused_parameter = h.1.1.1.1.1.1.1.0;
      plain_arguments = h.1.1.1.1.1.1.1.1.0;
    }

    pub each-removed : MayRemoveParameter a i removing s k t → Each removing
    each-removed h =
        (h.no_reflection, (h.good_selector, (h.old_not_kernel, (h.known_selector, (h.one_less, (h.new_not_kernel, (h.fresh_selector, (h.unused_parameter, (h.plain_arguments, tt)))))))))

  module _ (c x setter given : N) where
    abbrev abstracting : CommandOf N
    abstracting = AbstractInstVar c x setter given

    pub may-abstract : Each abstracting → MayAbstractVariable a i abstracting c x setter
    may-abstract h = record {
      no_reflection = h.0;
      user_class = h.1.0;
      has_variable = h.1.1.0;
      fresh_getter = h.1.1.1.0;
      getter_not_kernel = h.1.1.1.1.0;
      fresh_setter = h.1.1.1.1.1.0;
      setter_not_kernel = h.1.1.1.1.1.1.0;
      shallow = h.1.1.1.1.1.1.1.0;
    }

    pub each-abstracted : MayAbstractVariable a i abstracting c x setter → Each abstracting
    each-abstracted h =
        (h.no_reflection, (h.user_class, (h.has_variable, (h.fresh_getter, (h.getter_not_kernel, (h.fresh_setter, (h.setter_not_kernel, (h.shallow, tt))))))))

  module _ (c : N) (meta : Bool) (s : N) (from to : ℕ) (t : N) where
    abbrev extracting : CommandOf N
    extracting = ExtractMethod c meta s from to t

    -- the conditions that are given the part
    abbrev of-part : EntryOf N × Part → List (ConditionOf N)
    of-part e = Arity t (length (free_temporaries a e.0.tree e.1)) ∷ SelectorFresh t ∷ Shallow ∷ []

    pub may-extract : Each extracting → MayExtractMethod a i extracting c meta s from to t
    may-extract h =
        let given = when-given (Meets a i extracting) of-part (part_at a i c meta s from to) h.1.1.1.1.1.1.1.1.1.1 in
        record {
          no_reflection = h.0;
          user_class = h.1.0;
          has_method = h.1.1.0;
          part_is = h.1.1.1.0;
          no_return = h.1.1.1.1.0;
          assigns_no_outer = h.1.1.1.1.1.0;
          steady_temporaries = h.1.1.1.1.1.1.0;
          unused_value = h.1.1.1.1.1.1.1.0;
          good_selector = h.1.1.1.1.1.1.1.1.0;
          new_not_kernel = h.1.1.1.1.1.1.1.1.1.0;
          same_arity = λ e q. (given e q).0;
          fresh_selector = λ e q. (given e q).1.0;
          shallow = λ e q. (given e q).1.1.0;
        }

    pub each-extracted : MayExtractMethod a i extracting c meta s from to t → Each extracting
    each-extracted h = (
      h.no_reflection,
      (
        h.user_class,
        (
          h.has_method,
          (
            h.part_is,
            (
              h.no_return,
              (
                h.assigns_no_outer,
                (
                  h.steady_temporaries,
                  (
                    h.unused_value,
                    (
                      h.good_selector,
                      (
                        h.new_not_kernel,
                        if-given (Meets a i extracting) of-part (part_at a i c meta s from to) (λ e q. (h.same_arity e q, (h.fresh_selector e q, (h.shallow e q, tt)))),
                      ),
                    ),
                  ),
                ),
              ),
            ),
          ),
        ),
      ),
    )

  module _ (c : N) (meta : Bool) (s : N) (from to : ℕ) where
    abbrev inlining : CommandOf N
    inlining = InlineMethod c meta s from to

    -- the conditions that are given the message
    abbrev of-message : EntryOf N × SendOf N → List (ConditionOf N)
    of-message e = target_needs a i c meta s from to e.1

    -- those that are given its target too
    abbrev of-class : SendOf N → EntryOf N → N → List (ConditionOf N)
    of-class e target d = Inlinable d target.meta e.selector ∷ []

    abbrev last : List (ConditionOf N)
    last = PlainActuals c meta s from to ∷ NoCapture c meta s (AtPart from to) ∷ NoNewControl c meta s (AtPart from to) ∷ Shallow ∷ []

    abbrev of-target : SendOf N → EntryOf N → List (ConditionOf N)
    of-target e target = option_map_or (of-class e target) target.class [] ++ last

    pub may-inline : Each inlining → MayInlineMethod a i inlining c meta s from to
    may-inline h = record {
      no_reflection = h.0;
      user_class = h.1.0;
      has_method = h.1.1.0;
      self_send = h.1.1.1.0;
      one_target = λ e q. (given e q).0;
      inlinable = λ e q target p d r. (when-given (Meets a i inlining) (of-class e.1 target) target.class (both e q target p).0 d r).0;
      plain_actuals = λ e q target p. (both e q target p).1.0;
      no_capture = λ e q target p. (both e q target p).1.1.0;
      no_new_control = λ e q target p. (both e q target p).1.1.1.0;
      shallow = λ e q target p. (both e q target p).1.1.1.1.0;
    }
      where
        given : (e : EntryOf N × SendOf N) → send_at a i c meta s from to ≡ Some e → AllByRecursion (Meets a i inlining) (of-message e)
        given e q = when-given (Meets a i inlining) of-message (send_at a i c meta s from to) h.1.1.1.1 e q

        both : (e : EntryOf N × SendOf N) → send_at a i c meta s from to ≡ Some e → (target : EntryOf N) → target_of a i c meta e.1 ≡ Some target →
            AllByRecursion (Meets a i inlining) (option_map_or (of-class e.1 target) target.class []) × AllByRecursion (Meets a i inlining) last
        both e q target p =
            in-both (Meets a i inlining) (option_map_or (of-class e.1 target) target.class []) last
            (when-given (Meets a i inlining) (of-target e.1) (target_of a i c meta e.1) (given e q).1 target p)

    pub each-inlined : MayInlineMethod a i inlining c meta s from to → Each inlining
    each-inlined h = (
      h.no_reflection,
      (
        h.user_class,
        (
          h.has_method,
          (
            h.self_send,
            if-given (Meets a i inlining) of-message (send_at a i c meta s from to) (λ e q. (
              h.one_target e q,
              if-given (Meets a i inlining) (of-target e.1) (target_of a i c meta e.1) (λ target p.
                  AllByRecursion-append (Meets a i inlining) (option_map_or (of-class e.1 target) target.class []) last
                  (if-given (Meets a i inlining) (of-class e.1 target) target.class (λ d r. (h.inlinable e q target p d r, tt)))
                  (h.plain_actuals e q target p, (h.no_capture e q target p, (h.no_new_control e q target p, (h.shallow e q target p, tt))))),
            )),
          ),
        ),
      ),
    )

  module _ (c : N) (meta : Bool) (s : N) (from to : ℕ) (x : N) where
    abbrev taking : CommandOf N
    taking = ExtractTemp c meta s from to x

    pub may-take : Each taking → MayExtractTemporary a i taking c meta s from to x
    may-take h = record {
      no_reflection = h.0;
      user_class = h.1.0;
      has_method = h.1.1.0;
      part_is = h.1.1.1.0;
      first_evaluated = h.1.1.1.1.0;
      good_name = h.1.1.1.1.1.0;
      new_name = h.1.1.1.1.1.1.0;
      shallow = h.1.1.1.1.1.1.1.0;
    }

    pub each-taken : MayExtractTemporary a i taking c meta s from to x → Each taking
    each-taken h =
        (h.no_reflection, (h.user_class, (h.has_method, (h.part_is, (h.first_evaluated, (h.good_name, (h.new_name, (h.shallow, tt))))))))

  module _ (c : N) (meta : Bool) (s x : N) where
    abbrev replacing : CommandOf N
    replacing = InlineTemp c meta s x

    pub may-replace : Each replacing → MayInlineTemporary a i replacing c meta s x
    may-replace h = record {
      no_reflection = h.0;
      user_class = h.1.0;
      has_method = h.1.1.0;
      declared = h.1.1.1.0;
      let_form = h.1.1.1.1.0;
      no_capture = h.1.1.1.1.1.0;
      no_new_control = h.1.1.1.1.1.1.0;
      shallow = h.1.1.1.1.1.1.1.0;
    }

    pub each-replaced : MayInlineTemporary a i replacing c meta s x → Each replacing
    each-replaced h =
        (h.no_reflection, (h.user_class, (h.has_method, (h.declared, (h.let_form, (h.no_capture, (h.no_new_control, (h.shallow, tt))))))))

  module _ (c : N) (meta : Bool) (s x y : N) where
    abbrev renaming : CommandOf N
    renaming = RenameTemp c meta s x y

    pub may-rename : Each renaming → MayRenameTemporary a i renaming c meta s x y
    may-rename h = record { no_reflection = h.0; user_class = h.1.0; has_method = h.1.1.0; declared = h.1.1.1.0; good_name = h.1.1.1.1.0; new_name = h.1.1.1.1.1.0 }

    pub each-renamed : MayRenameTemporary a i renaming c meta s x y → Each renaming
    each-renamed h = (h.no_reflection, (h.user_class, (h.has_method, (h.declared, (h.good_name, (h.new_name, tt))))))
