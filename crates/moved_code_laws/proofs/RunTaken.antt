-- What `extractMethod` makes of an image, where its part is statements, unfolds to the image before.
use Rattle.std.proofs.Common.{◌≡◌, ◌+◌, ℕ, List, [], ◌∷◌, length, map, Option, Some, None, refl, sym, ap, ◌∙◌, subst}
use Rattle.std.specs.Prelude.{Bool, true, false, not, ◌&&◌, if◌then◌else◌, filter, option_map, unwrap_or, codes}
use Rattle.std.specs.List.{AllByRecursion}
use Rattle.std.proofs.lemmas.Bool.{ltb-true}
use Rattle.rb_base.specs.Names.{text_eq}
use Rattle.rb_base.proofs.NamesLemmas.{text_eq-refl}
use Rattle.tree_model.specs.Tree.{TreeOf, var, block, StatementsOf, MethodOf}
use Rattle.tree_model.specs.Path.{count, nth, statement_trees, method_replaced}
use Rattle.tree_model.specs.Normal.{normal}
use Rattle.tree_model.proofs.NormalLemmas.{bare_method-normal}
use Rattle.scope_model.specs.SpecialNames.{is_pseudo_variable, control_form}
use Rattle.scope_model.specs.declared.local.Local.TheVariants.{Temporary}
use Rattle.scope_model.specs.Scope.{PlacedScope, is_among, local_by}
use Rattle.scope_model.specs.FreeNames.{run_of, free_occurrences, free_in_statements, free_names, each_once, statements_at}
use Rattle.image_model.specs.Image.{ClassOf, EntryOf, ImageOf}
use Rattle.image_model.specs.Words.{text_words}
use Rattle.image_model.specs.Lookup.{is_method}
use Rattle.image_model.specs.Means.{MeaningOf, means, means_outside}
use Rattle.run_model.specs.Values.{Name}
use Rattle.resolved_model.specs.ResolvedTrees.{sending}
use Rattle.resolved_model.specs.ResolvedImages.{resolved_image}
use Rattle.resolved_model.specs.Environments.{Declared, opened, declared_in, tree_in, trees_in, statements_in}
use Rattle.mapped_model.proofs.RenamedVariableLemmas.{all-at}
use Rattle.rename_model.specs.ClassRenamed.{WritingOf}
use Rattle.rename_model.specs.Conditions.{is_user_class, is_selector_fresh}
use Rattle.rename_laws.specs.BehindKernel.{AssignsNothingFixed}
use Rattle.unfolded_calls.specs.Unfolding.{Context, opened as opened_context, Unfolds, UnfoldsOwn, IsUnfolded}
use Rattle.unfolded_calls.specs.SendsOnly.{StatementsSendOnly}
use Rattle.unfolded_calls.specs.SameContexts.{IsOutside}
use Rattle.unfolded_places.specs.Becoming.{Becomes}
use Rattle.unfolded_places.specs.Inlining.{Filling, filling}
use Rattle.unfolded_places.specs.Fillings.{StatementsMayFill}
use Rattle.unfolded_places.specs.ExtractedOnce.{one_gone, IsSentNowhereIn, call_of}
use Rattle.unfolded_places.proofs.Congruence.{ControlLaw}
use Rattle.unfolded_places.proofs.Inlined.{self-there}
use Rattle.unfolded_places.proofs.Refilled.{tree-fills-with}
use Rattle.unfolded_places.proofs.SelfFilled.{themselves, tree-itself}
use Rattle.unfolded_places.proofs.UsesApart.{uses_of_lines}
use Rattle.unfolded_places.proofs.Slots.{modes-count, modes-staying}
use Rattle.unfolded_places.proofs.StandsThere.{keeps_in, captures, Stands as IsThere}
use Rattle.unfolded_places.proofs.PassedThere.{outer-outside as own_outside, IsPassing, part-passed, place-there, all-passed}
use Rattle.unfolded_places.proofs.MethodMoves.{inside, own_modes}
use Rattle.command_model.specs.Asked.{text_asked}
use Rattle.command_model.specs.MethodEffects.{new_method}
use Rattle.command_model.specs.Parts.{Part, Run}
use Rattle.command_model.specs.Places.{is_local, users_method}
use Rattle.command_model.specs.PartConditions.{has_no_return, is_value_unused, assigns_no_outer, are_temporaries_steady}
use Rattle.command_model.specs.Sequences.{single, put_in, block_changed, sequence_changed, retold}
use Rattle.command_model.specs.Extracted.{free_temporaries, method_of, part_replaced, put_behind_last, method_extracted}
use Rattle.command_model.specs.CodeEffects.{part_at as part_named}
use Rattle.command_model.specs.Commands.{ExtractMethod}
use Rattle.command_model.specs.Effects.{effect}
use Rattle.moved_code_laws.specs.WellWritten.{IsWellWritten}
use Rattle.moved_code_laws.proofs.Saying.{said_by}
use Rattle.moved_code_laws.proofs.PlainThere.{no-control}
use Rattle.moved_code_laws.proofs.InlinedHere.{not-class, no-primitive}
use Rattle.moved_code_laws.proofs.FreshSelector.{unsent, unsent-doits}
use Rattle.moved_code_laws.proofs.UsersThere.{UsersMethod}
use Rattle.moved_code_laws.proofs.MethodImages.{lines-normal, own-doing, image-back}
use Rattle.moved_code_laws.proofs.RunStands.{Stands, put_there, StayEach, own-back, run-back, each-stands}
use Rattle.moved_code_laws.proofs.RunBody.{may-nth, run-body}
use Rattle.moved_code_laws.proofs.SequencesThere.{IsSequence, own_sequence, of_block, HasMore, sequence-there, round_of, round-at}
use Rattle.moved_code_laws.proofs.SequenceMoves.{notes_of, with_lines, same-lines, Moves, sequence-moves}
use Rattle.moved_code_laws.proofs.NamesPlain.{unblocked, themselves-open, themselves-count, ArePassed, locals-passed, near-passed}
use Rattle.moved_code_laws.proofs.NewFound.{new, tree_after, behind, image_after, target}
use Rattle.moved_code_laws.proofs.ExtractedHere.{part-in-sends}
use Rattle.moved_code_laws.proofs.RunNamed.{undeclaring, kept-run, kept-free, near-there, run-may}

-- where the value of a run counts for nothing, it stands in a sequence; and in that of a block a further statement stands behind it
pub used-there : (m : MethodOf Name) (path : List ℕ) (first n : ℕ) → is_value_unused m (Run path first n) ≡ true → (q : IsSequence m path (statements_at m.body path)) × HasMore q (first + n)
used-there m [] first n e = (own_sequence, tt)
used-there m (k ∷ ks) first n e = sequence-there m k ks (first + n) (ltb-true (first + n) (count (statement_trees (statements_at m.body (k ∷ ks)))) e)

-- the method with one statement in place of a run
run-replaced : (m : EntryOf Name) (call : TreeOf Name) (first n : ℕ) {path : List ℕ} {ss : StatementsOf Name} → (q : IsSequence m.tree path ss) →
    sequence_changed (put_in first n (single call)) path m.tree ≡ record m.tree { body = record m.tree.body { statements = with_lines m q (put_there call first n ss) (notes_of m q) } }
run-replaced m call first n own_sequence = refl
run-replaced m call first n (of_block k ks ps ts ss e at) = ap (λ (o : Option (TreeOf Name)). unwrap_or (option_map (λ u. method_replaced m.tree (k ∷ ks) (block_changed (put_in first n (single call)) u)) o) m.tree) at

-- statements of a method of the user, that become a method of a fresh selector
pub record TakingRun (i : ImageOf Name) (c : Name) (meta : Bool) (s t : Name) (m : EntryOf Name) (path : List ℕ) (first n : ℕ) : Type 0 where
  pub user : is_user_class text_eq i c ≡ true
  pub found : users_method text_eq i c meta s ≡ Some m
  pub mine : UsersMethod i c meta m
  pub no_return : has_no_return m.tree (Run path first n) ≡ true
  pub unused : is_value_unused m.tree (Run path first n) ≡ true
  pub fresh : is_selector_fresh text_eq i t ≡ true
  pub assigns : assigns_no_outer text_asked m.tree (Run path first n) ≡ true
  pub temporaries : are_temporaries_steady text_asked m.tree (Run path first n) ≡ true

module _ (control : ControlLaw) (writing : WritingOf Name) (i : ImageOf Name) (sound : IsWellWritten i) (c : Name) (meta : Bool) (s t : Name) (m : EntryOf Name) (path : List ℕ) (first n : ℕ) (scene : TakingRun i c meta s t m path first n)
    (ss : StatementsOf Name) (q : IsSequence m.tree path ss) (more : HasMore q (first + n)) (here : statements_at m.tree.body path ≡ ss) where
  abbrev run : StatementsOf Name
  run = run_of ss first n

  abbrev round : List (PlacedScope Name)
  round = round_of m.tree q

  abbrev A : List Declared
  A = declared_in (round_of m.tree q)

  -- the names that are passed, and the message
  abbrev names : List Name
  names = filter (λ x. is_local (said_by round x)) (free_names text_eq is_pseudo_variable (block [] [] run []))

  named : free_temporaries text_asked m.tree (Run path first n) ≡ names
  named =
      (λ z. filter (λ x. is_local (said_by (round-at m.tree q first z) x)) (each_once text_eq (free_in_statements text_eq is_pseudo_variable (run_of (here z) first n))))
      ∙ ap (λ xs. filter (λ x. is_local (said_by round x)) (each_once text_eq xs)) (sym (undeclaring (free_in_statements text_eq is_pseudo_variable run)))

  abbrev call : TreeOf Name
  call = call_of t names

  -- the new method
  abbrev raw : MethodOf Name
  raw = record { selector = t; arguments = names; head = []; primitive = None; body = record { temporaries = []; statements = run; tail = [] } }

  told : method_of text_asked t m.tree (Run path first n) ≡ normal raw
  told = λ z. normal (record { selector = t; arguments = named z; head = []; primitive = None; body = record { temporaries = []; statements = run_of (here z) first n; tail = [] } })

  -- the image after
  abbrev lines : StatementsOf Name
  lines = with_lines m q (put_there call first n ss) (notes_of m q)

  abbrev pub image_then : ImageOf Name
  image_then = image_after writing i sound c meta s t m scene.user scene.mine scene.fresh (normal raw) refl lines

  -- no method speaks of the selector
  unsent-here : IsSentNowhereIn t m
  unsent-here = unsent i t scene.fresh scene.mine.place m scene.mine.at

  unsent-there : {p : List ℕ} {us : StatementsOf Name} → IsSequence m.tree p us → StatementsSendOnly (λ x. text_eq x t ≡ false) us
  unsent-there own_sequence = unsent-here
  unsent-there (of_block k ks ps ts us e at) = part-in-sends (λ x. text_eq x t ≡ false) m.tree (k ∷ ks) (block ps ts us e) unsent-here at

  fixed : AssignsNothingFixed (means text_words i m) m.tree.body
  fixed = all-at (λ (n : EntryOf Name). AssignsNothingFixed (means text_words i n) n.tree.body) i.methods scene.mine.place m sound.behind.methods scene.mine.at

  -- what names mean outside the new method, and outside the one that changes
  abbrev before : Name → MeaningOf Name
  before x = means_outside text_words i (Some c) meta x

  abbrev outer : Name → MeaningOf Name
  outer x = means_outside text_words i m.class m.meta x

  abbrev outer-outside : (x : Name) → IsOutside (outer x)
  outer-outside = own_outside control image_then (one_gone t) m c meta round

  same : (x : Name) → before x ≡ outer x
  same x = λ z. means_outside text_words i (sym scene.mine.class z) (sym scene.mine.side z) x

  -- what is passed: arguments, and temporaries that no closure assigns
  kept : (x : Name) (k : ℕ) → is_pseudo_variable x ≡ false → local_by text_eq round x ≡ Temporary k → is_among text_eq (free_occurrences text_eq is_pseudo_variable (block [] [] run [])) x ≡ true → keeps_in round x ≡ true
  kept x k p e free = kept-free i m path first n ss q scene.no_return fixed scene.assigns scene.temporaries x k p e (subst (λ xs. is_among text_eq xs x ≡ true) (undeclaring (free_in_statements text_eq is_pseudo_variable run)) free)

  passes : ArePassed outer round (free_occurrences text_eq is_pseudo_variable (block [] [] run [])) kept names
  passes = locals-passed outer round (free_occurrences text_eq is_pseudo_variable (block [] [] run [])) kept

  -- the message is one that runs the new method
  abbrev passing : IsPassing control image_then (one_gone t) m c meta round t (themselves names)
  passing = record {
    message = no-control (control_form t) (var (codes "self")) (themselves names) (unblocked names);
    target = new writing i sound c meta s t m scene.user scene.mine scene.fresh (normal raw) refl lines;
    found = target writing i sound c meta s t m scene.user scene.mine scene.fresh (normal raw) refl lines;
    primitive = refl;
    temporaries = ap (λ (x : MethodOf Name). x.body.temporaries) (bare_method-normal raw);
    supers = true;
    above = λ e. (refl, refl);
    actuals = passes.actuals;
    passes = passes.plain;
    count = passes.counted;
  }

  new-lines : statements_in before (opened names [] []) (normal raw).body.statements ≡ statements_in before (opened names [] []) run
  new-lines = lines-normal before (opened names [] []) [] raw

  -- a statement of it
  abbrev z : Filling
  z = record { arguments = names; passed = themselves names; before = before; after = outer; round = A }

  may : StatementsMayFill z true (λ x. text_eq x t) [] run
  may = run-may i m path first n ss q scene.no_return fixed scene.assigns t before outer same (kept-run (λ x. text_eq x t ≡ false) first n ss (unsent-there q))

  statement-there : (k : ℕ) (u : TreeOf Name) → nth (statement_trees run) k ≡ Some u → Unfolds (resolved_image image_then) (one_gone t) (opened_context passes.actuals true) (tree_in before (opened names [] []) u) (tree_in outer A u)
  statement-there k u at =
      part-passed control image_then (one_gone t) m c meta round t (themselves names) passing u u
      (near-passed round names u (λ x d p e. near-there i m path first n ss q scene.no_return fixed scene.assigns k u at scene.temporaries x d p e))
      (subst (λ w. Becomes (filling z true (λ x. text_eq x t)) (opened names [] []) A u w) (tree-itself names [] u)
      (tree-fills-with z true (λ x. text_eq x t) (themselves-open names) (themselves-count names) [] u (may-nth z true (λ x. text_eq x t) [] run k u may at)))

  abbrev There : Context → List (PlacedScope Name) → StatementsOf Name → Type 0
  There g C us = IsThere (resolved_image image_then) (one_gone t) outer outer-outside (Some (c, meta)) g C (uses_of_lines us)

  call-stands : (g : Context) (us : StatementsOf Name) → There g round us → Stands (resolved_image image_then) (one_gone t) g (tree_in outer A call) (statements_in outer A run)
  call-stands g us h = record {
    selector = t;
    passed = trees_in outer A (themselves names);
    actuals = passes.actuals;
    supers = true;
    body = statements_in before (opened names [] []) run;
    sends = ap (λ y. sending y t (trees_in outer A (themselves names))) (self-there outer A);
    place = place-there control image_then (one_gone t) m c meta round t (themselves names) passing g (uses_of_lines us) h (statements_in before (opened names [] []) run) new-lines;
    plain = all-passed image_then (one_gone t) outer outer-outside (Some (c, meta)) g round (uses_of_lines us) h (themselves names) passes.actuals passes.plain;
    lines = run-body (resolved_image image_then) (one_gone t) (opened_context passes.actuals true) before outer (opened names [] []) A run statement-there;
  }

  stay : {p : List ℕ} {us : StatementsOf Name} (r : IsSequence m.tree p us) (g : Context) → There g (round_of m.tree r) us → StayEach (resolved_image image_then) (one_gone t) outer (declared_in (round_of m.tree r)) g us
  stay {us = us} r g h = each-stands control (resolved_image image_then) (one_gone t) outer outer-outside (Some (c, meta)) (round_of m.tree r) g us h (unsent-there r)

  -- the statements with the message become those before
  moves : {p : List ℕ} {us : StatementsOf Name} (r : IsSequence m.tree p us) → HasMore r (first + n) →
      ((g : Context) → There g (round_of m.tree r) us → Stands (resolved_image image_then) (one_gone t) g (tree_in outer (declared_in (round_of m.tree r)) call) (statements_in outer (declared_in (round_of m.tree r)) (run_of us first n))) →
      Moves control (resolved_image image_then) (one_gone t) outer outer-outside (Some (c, meta)) m r (put_there call first n us) us
  moves own_sequence b h = λ g at. own-back (resolved_image image_then) (one_gone t) outer (declared_in (round_of m.tree own_sequence)) g call n first m.tree.body.statements (stay own_sequence g at) (h g at)
  moves (of_block k ks ps ts us e at) b h = λ g there.
      run-back (resolved_image image_then) (one_gone t) outer (declared_in (round_of m.tree (of_block k ks ps ts us e at))) g call n first us (stay (of_block k ks ps ts us e at) g there) b (h g there)

  abbrev own : List Declared
  own = opened m.tree.arguments m.tree.body.temporaries []

  abbrev inner : Context
  inner = inside control (resolved_image image_then) (one_gone t) outer outer-outside (Some (c, meta)) m.tree

  lines-unfold : UnfoldsOwn (resolved_image image_then) (one_gone t) inner (statements_in outer own lines) (statements_in outer own m.tree.body.statements)
  lines-unfold =
      subst (λ us. UnfoldsOwn (resolved_image image_then) (one_gone t) inner (statements_in outer own lines) (statements_in outer own us)) (same-lines m q)
      (sequence-moves control (resolved_image image_then) (one_gone t) outer outer-outside (Some (c, meta)) m q (put_there call first n ss) ss (notes_of m q) (notes_of m q) unsent-here (moves q more (λ g h. call-stands g ss h)))

  -- and so does the image
  abbrev tree_then : MethodOf Name
  tree_then = tree_after writing i sound c meta s t m scene.user scene.mine scene.fresh (normal raw) refl lines

  plain : m.tree.primitive ≡ None
  plain = no-primitive m.tree.primitive m.tree.body.temporaries m.tree.body.statements scene.mine.formed.primitive

  pub image-unfolds : AllByRecursion (λ (x : ClassOf Name). text_eq [] x.name ≡ false) i.classes → IsUnfolded (resolved_image image_then) (resolved_image i)
  image-unfolds classes =
      image-back writing i sound c meta s m scene.found tree_then (record { selector = refl; primitive = plain; no_primitive = plain; arguments = refl; temporaries = refl })
      t (behind writing i sound c meta s t m scene.user scene.mine scene.fresh (normal raw) refl lines) (new writing i sound c meta s t m scene.user scene.mine scene.fresh (normal raw) refl lines) (text_eq-refl t)
      classes (unsent i t scene.fresh) (unsent-doits i t scene.fresh) (record { class = scene.mine.class; meta = scene.mine.side; user = not-class i sound c scene.user })
      (own-doing (resolved_image image_then) (one_gone t) (Some (c, meta)) (length m.tree.arguments) (length m.tree.body.temporaries) (own_modes control (resolved_image image_then) (one_gone t) outer outer-outside (Some (c, meta)) m.tree) (statements_in outer own lines) (statements_in outer own m.tree.body.statements)
      (modes-count (λ x. not (captures m.tree.body.statements x)) m.tree.body.temporaries) (modes-staying (λ x. not (captures m.tree.body.statements x)) m.tree.body.temporaries) lines-unfold)

  -- it is what the command makes
  pub effect-taken : (from to : ℕ) (x : EntryOf Name × Part) → part_named text_asked i c meta s from to ≡ Some x → x.0 ≡ m → x.1 ≡ Run path first n → effect text_asked writing (ExtractMethod c meta s from to t) i ≡ image_then
  effect-taken from to x e p r =
      ap (λ o. unwrap_or (option_map (λ (e : EntryOf Name × Part). method_extracted text_asked writing c meta s e.0 e.1 t i) o) i) e
      ∙ (λ z. method_extracted text_asked writing c meta s (p z) (r z) t i)
      ∙ (λ z. record i { methods = put_behind_last (behind writing i sound c meta s t m scene.user scene.mine scene.fresh (normal raw) refl lines) (new_told (told z)) (map (λ x. if is_method text_eq c meta s x && not x.kernel then retold text_eq writing x (part_replaced m.tree (Run path first n) (call_of t (named z))) else x) i.methods) })
      ∙ (λ z. record i { methods = put_behind_last (behind writing i sound c meta s t m scene.user scene.mine scene.fresh (normal raw) refl lines) (new_told (normal raw)) (map (λ x. if is_method text_eq c meta s x && not x.kernel then retold text_eq writing x (run-replaced m call first n q z) else x) i.methods) })
    where
      new_told : MethodOf Name → EntryOf Name
      new_told tree = new_method c meta m.protocol (writing.method_text tree) tree
