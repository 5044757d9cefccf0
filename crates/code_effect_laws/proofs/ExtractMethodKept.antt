-- `extractMethod` keeps images valid, where its conditions hold.
use Rattle.std.proofs.Common.{◌≡◌, ◌⊎◌, inl, inr, ℕ, zero, suc, ◌+◌, ◌<◌, ◌≤◌, Bool, true, false, not, List, [], ◌∷◌, length, Option, Some, None, option_and_then, option_map, refl, sym, ap, subst, ◌∙◌, arith}
use Rattle.std.specs.Prelude.{◌&&◌, if◌then◌else◌, unwrap_or, nat_le}
use Rattle.std.specs.Bool.{beq}
use Rattle.std.specs.Option.{option_map_or}
use Rattle.std.proofs.lemmas.Bool.{and_parts, eqb-true, ltb-true, leb-true}
use Rattle.rb_base.specs.Names.{text_eq}
use Rattle.token_model.specs.declared.kind.Dialect.TheVariants.{Second}
use Rattle.tree_model.specs.Tree.{TreeOf, TreesOf, no_trees, more_trees, MethodOf}
use Rattle.tree_model.specs.Path.{count, nth, statement_trees, part_at, part_in}
use Rattle.tree_model.specs.Measure.{sequence_height}
use Rattle.tree_model.specs.Normal.{normal}
use Rattle.scope_model.specs.FreeNames.{statements_at}
use Rattle.text_model.specs.Literals.{is_selector}
use Rattle.text_model.specs.Whole.{canonical_method}
use Rattle.grammar_model.specs.Spanned.{SpannedTree, SpannedSequence, plain_tree}
use Rattle.grammar_model.specs.Spans.{Span, spanned_statements, spanned_nth, spanned_part, spanned_in, IsRunAt}
use Rattle.grammar_model.specs.Spelling.{SpellsMethod}
use Rattle.grammar_model.proofs.Places.{plain_in_Method}
use Rattle.image_model.specs.Image.{ClassOf, EntryOf, ImageOf}
use Rattle.image_model.specs.Lookup.{is_method}
use Rattle.image_model.specs.Valid.{class_names, signature, IsUserMethod}
use Rattle.reread_law.specs.WholeTrees.{WellFormedMethod}
use Rattle.reread_law.proofs.Methods.{method_again}
use Rattle.file_model.specs.Filing.{Text}
use Rattle.file_model.specs.Fileable.{reading_of, MayStand}
use Rattle.file_laws.specs.Fronts.{method_of_kernel}
use Rattle.file_laws.proofs.Moves.{text_equal}
use Rattle.rename_model.specs.ClassRenamed.{WritingOf, canonical}
use Rattle.rename_model.specs.CommandWords.{arity}
use Rattle.command_model.specs.Asked.{text_asked}
use Rattle.command_model.specs.Commands.{ExtractMethod}
use Rattle.command_model.specs.CodeHolds.{are_low_extracted}
use Rattle.command_model.specs.Extracted.{put_behind_last, statements_of_part, free_temporaries, part_replaced, call_of, method_of, method_extracted}
use Rattle.command_model.specs.Hierarchy.{is_method_of}
use Rattle.command_model.specs.MethodEffects.{new_method}
use Rattle.command_model.specs.ParameterConditions.{is_low}
use Rattle.command_model.specs.Parts.{Part, Expression, Run}
use Rattle.command_model.specs.PartConditions.{is_part, has_no_return, assigns_no_outer, is_value_unused}
use Rattle.command_model.specs.Sequences.{retold, with_tree}
use Rattle.command_model.specs.CodeEffects.{part_at as its_part_at}
use Rattle.command_model.specs.Effects.{effect}
use Rattle.command_model.specs.AllHold.{AllHold}
use Rattle.command_model.proofs.PartsFound.{finds-parts}
use Rattle.command_model.specs.Located.{HasPart as IsLocated}
use Rattle.same_trees.specs.SameTrees.{same_code}
use Rattle.effect_laws.proofs.Items.{In, in_map, map_in}
use Rattle.effect_laws.proofs.Sound.{HasHome, AreSoundMethods, IsSound}
use Rattle.effect_laws.proofs.Fronts.{in_kernel}
use Rattle.effect_laws.proofs.Tests.{HasName, there_passes}
use Rattle.effect_laws.proofs.Facts.{user_class}
use Rattle.effect_laws.proofs.Kernel.{IsWhole, user_name}
use Rattle.effect_laws.proofs.RenamesKept.{fresh_selector}
use Rattle.effect_laws.proofs.WholeTrees.{spelled_method}
use Rattle.effect_laws.proofs.MethodCommands.{with_sound_methods, signature_of}
use Rattle.effect_laws.proofs.Filed.{IsFiled}
use Rattle.effect_laws.proofs.Blanks.{may_stand, method_begins}
use Rattle.effect_laws.proofs.KernelInFront.{AreFronts, front_map}
use Rattle.effect_laws.proofs.TreeReplaced.{mark_kept}
use Rattle.code_effect_laws.proofs.Methods.{IsBody, normal_well}
use Rattle.code_effect_laws.proofs.MethodGiven.{given_sound, given_filed, normal_selector}
use Rattle.code_effect_laws.proofs.Parts.{IsNamed, is_named, HasPart, has_part, expression_at}
use Rattle.code_effect_laws.proofs.Lets.{has_sequence}
use Rattle.code_effect_laws.proofs.PartExtracted.{IsExtracted, expression_extracted, statements_extracted}
use Rattle.code_effect_laws.proofs.PutBehind.{put_in, once_put, filter_put, front_put}

-- a tree of a number that is among so many
nth_there : (ts : TreesOf Text) (k : ℕ) → k < count ts → (c : TreeOf Text) × (nth ts k ≡ Some c)
nth_there no_trees k h = absurd (omega (arith, h))
nth_there (more_trees t ts) zero h = (t, refl)
nth_there (more_trees t ts) (suc k) h = nth_there ts k (let less : k < count ts = omega (arith, h) in less)

-- where a path of one step leads
first_step : (ts : TreesOf Text) (k : ℕ) (c : TreeOf Text) → option_and_then (λ (t : TreeOf Text). part_at t []) (nth ts k) ≡ Some c → nth ts k ≡ Some c
first_step ts k c e = by (nth ts k) e
  where
    by : (o : Option (TreeOf Text)) → option_and_then (λ (t : TreeOf Text). part_at t []) o ≡ Some c → o ≡ Some c
    by None q = absurd (cc)
    by (Some t) q = q

-- where the first of a body's own statements stands
head_in : (b : SpannedSequence) (first n : ℕ) (span : Span) (at : IsRunAt b [] first n span) → spanned_in b (first ∷ []) ≡ Some at.head
head_in b first n span at =
    let same : spanned_statements b.statements ≡ at.statements = (let there : Some (spanned_statements b.statements) ≡ Some at.statements = at.of_path in cc) in
    ap (λ ts. option_and_then (λ (x : SpannedTree). spanned_part x []) (spanned_nth ts first)) same ∙ ap (option_and_then (λ (x : SpannedTree). spanned_part x [])) at.at_first

module _ (kernel i : ImageOf Text) (s : IsSound kernel i) (whole : IsWhole kernel) (c : Text) (meta : Bool) (t : Text) (from to : ℕ) (u : Text) (h : AllHold text_asked i (ExtractMethod c meta t from to u)) where
  -- the part
  found : (e : EntryOf Text × Part) × (its_part_at text_asked i c meta t from to ≡ Some e) × (is_part text_asked e.0.tree e.1 ≡ true)
  found = there_passes (λ (e : EntryOf Text × Part). is_part text_asked e.0.tree e.1) (its_part_at text_asked i c meta t from to) h.part_is

  abbrev its : EntryOf Text
  its = found.0.0

  abbrev part : Part
  part = found.0.1

  place : HasPart i c meta t from to found.0
  place = has_part i c meta t from to found.0 found.1

  method : IsNamed kernel i c meta t its
  method = is_named kernel i s c meta t its place.named

  -- what a condition tells of it
  told : (test : EntryOf Text → Part → Bool) → option_map_or (λ (e : EntryOf Text × Part). test e.0 e.1) (its_part_at text_asked i c meta t from to) false ≡ true → test its part ≡ true
  told test g = ap (λ o. option_map_or (λ (e : EntryOf Text × Part). test e.0 e.1) o false) (sym found.1) ∙ g

  selector : is_selector u ≡ true
  selector = (and_parts (nat_le (length u) 200) (is_selector u) h.good_selector).1

  fits : arity u ≡ length (free_temporaries text_asked its.tree part)
  fits = eqb-true (arity u) (length (free_temporaries text_asked its.tree part)) (h.same_arity found.0 found.1)

  extracted : IsExtracted its.tree part u
  extracted = by found.0.1 refl (told (λ m q. is_part text_asked m.tree q) h.part_is) (told (λ m q. assigns_no_outer text_asked m.tree q) h.assigns_no_outer) (told (λ m q. has_no_return m.tree q) h.no_return) (told (λ m q. is_value_unused m.tree q) h.unused_value) fits place.located
    where
      spelled : SpellsMethod Second false found.0.0.source found.0.0.tree
      spelled = (s.methods.spelled found.0.0 method.there method.user).spells

      run : (path : List ℕ) (first n : ℕ) → assigns_no_outer text_asked found.0.0.tree (Run path first n) ≡ true → has_no_return found.0.0.tree (Run path first n) ≡ true → is_value_unused found.0.0.tree (Run path first n) ≡ true
          → arity u ≡ length (free_temporaries text_asked found.0.0.tree (Run path first n)) → IsRunAt spelled.spanned.body path first n (record { from = from; to = to }) → IsExtracted found.0.0.tree (Run path first n) u
      run [] first n outer none unused fit at =
          let head : part_in found.0.0.tree.body (first ∷ []) ≡ Some (plain_tree at.head) =
          ap (λ (m : MethodOf Text). part_in m.body (first ∷ [])) spelled.same ∙ sym (plain_in_Method spelled.spanned (first ∷ [])) ∙ ap (option_map plain_tree) (head_in spelled.spanned.body first n (record { from = from; to = to }) at) in
          statements_extracted found.0.0.tree method.proper u selector [] first n [] found.0.0.tree.arguments found.0.0.tree.body IsBody refl (plain_tree at.head) (first_step (statement_trees found.0.0.tree.body.statements) first (plain_tree at.head) head) outer none fit
      run (k ∷ ks) first n outer none unused fit at =
          let less : first + n < count (statement_trees (statements_at found.0.0.tree.body (k ∷ ks))) = ltb-true (first + n) (count (statement_trees (statements_at found.0.0.tree.body (k ∷ ks)))) unused in
          let q = has_sequence found.0.0.tree (k ∷ ks) (omega (arith, less)) in
          let head = nth_there (statement_trees (statements_at found.0.0.tree.body (k ∷ ks))) first (omega (arith, less)) in
          statements_extracted found.0.0.tree method.proper u selector (k ∷ ks) first n q.known q.parameters q.sequence q.there q.same head.0 (ap (λ ss. nth (statement_trees ss) first) (sym q.same) ∙ head.1) outer none fit

      by : (q : Part) → found.0.1 ≡ q → is_part text_asked found.0.0.tree q ≡ true → assigns_no_outer text_asked found.0.0.tree q ≡ true → has_no_return found.0.0.tree q ≡ true → is_value_unused found.0.0.tree q ≡ true
          → arity u ≡ length (free_temporaries text_asked found.0.0.tree q) → text_asked.part_of found.0.0.source from to ≡ Some q → IsExtracted found.0.0.tree q u
      by (Expression path) e is outer none unused fit there = let node = expression_at found.0.0.tree path is in expression_extracted found.0.0.tree method.proper u selector path node.node node.there node.value outer fit
      by (Run path first n) e is outer none unused fit there =
          let at = subst (IsLocated spelled.spanned.body (record { from = from; to = to })) there (finds-parts found.0.0.source spelled.spanned from to spelled.spells) in
          run path first n outer none unused fit at.1

  -- the method that it becomes, and what the other one becomes
  abbrev tree : MethodOf Text
  tree = part_replaced its.tree part (call_of text_asked u its.tree part)

  abbrev new_tree : MethodOf Text
  new_tree = method_of text_asked u its.tree part

  abbrev new_raw : MethodOf Text
  new_raw = record { selector = u; arguments = free_temporaries text_asked its.tree part; head = []; primitive = None; body = record { temporaries = []; statements = statements_of_part its.tree part; tail = [] } }

  abbrev added : WritingOf Text → EntryOf Text
  added writing = new_method c meta its.protocol (writing.method_text new_tree) new_tree

  abbrev passes : EntryOf Text → Bool
  passes e = is_method_of text_eq c e && beq meta e.meta

  abbrev between : WritingOf Text → ImageOf Text
  between writing = with_tree text_eq writing c meta t tree i

  abbrev after : WritingOf Text → ImageOf Text
  after writing = record i { methods = put_behind_last passes (added writing) (between writing).methods }

  effect_is : effect text_asked canonical (ExtractMethod c meta t from to u) i ≡ after canonical
  effect_is = ap (λ o. unwrap_or (option_map (λ (e : EntryOf Text × Part). method_extracted text_asked canonical c meta t e.0 e.1 u i) o) i) found.1

  -- neither is too high
  both_low : (is_low new_tree.body ≡ true) × (is_low (normal tree).body ≡ true)
  both_low = and_parts (is_low new_tree.body) (is_low (normal tree).body) (told (are_low_extracted text_asked i u) (h.shallow found.0 found.1))

  low : sequence_height (normal tree).body ≤ 200
  low = leb-true (sequence_height (normal tree).body) 200 both_low.1

  between_sound : IsSound kernel (between canonical)
  between_sound = given_sound kernel i s c meta t tree extracted.changed (extracted.selector ∙ method.selected) low

  -- a method stays of its class and side, and has its selector
  abbrev one : WritingOf Text → EntryOf Text → EntryOf Text
  one writing m = if is_method text_eq c meta t m && not m.kernel then retold text_eq writing m tree else m

  one_passes : (writing : WritingOf Text) (m : EntryOf Text) → passes (one writing m) ≡ passes m
  one_passes writing m = by (is_method text_eq c meta t m && not m.kernel) (same_code text_eq m.tree (normal tree))
    where
      by : (a b : Bool) → passes (if a then if b then m else record m { tree = normal tree; source = writing.method_text (normal tree) } else m) ≡ passes m
      by true true = refl
      by true false = refl
      by false b = refl

  one_selector : (m : EntryOf Text) → (one canonical m).tree.selector ≡ m.tree.selector
  one_selector m = by (is_method text_eq c meta t m && not m.kernel) refl (same_code text_eq m.tree (normal tree))
    where
      by : (a : Bool) → (is_method text_eq c meta t m && not m.kernel) ≡ a → (b : Bool) → (if a then if b then m else record m { tree = normal tree; source = canonical_method (normal tree) } else m).tree.selector ≡ m.tree.selector
      by true q true = refl
      by true q false =
          normal_selector tree ∙ extracted.selector ∙ method.selected ∙ sym (ap (λ (y : _). y.2) (signature_of c meta t m (and_parts (is_method text_eq c meta t m) (not m.kernel) q).0))
      by false q b = refl

  new_well : WellFormedMethod false new_tree
  new_well = normal_well new_raw extracted.new (leb-true (sequence_height new_tree.body) 200 both_low.0)

  new_spelled : IsUserMethod (reading_of Second kernel) (added canonical)
  new_spelled = spelled_method kernel (added canonical) (method_again false new_tree new_well)

  -- its selector is new
  new_selector : new_tree.selector ≡ u
  new_selector = normal_selector new_raw

  fresh : (m : EntryOf Text) → In (between canonical).methods m → signature m ≡ signature (added canonical) → ⊥
  fresh m k e =
      let r = map_in (one canonical) i.methods m k in
      fresh_selector i u (h.fresh_selector found.0 found.1) r.0 r.1
      (sym (ap (λ (y : _). y.2) e ∙ new_selector) ∙ ap (λ (y : EntryOf Text). y.tree.selector) (sym r.2) ∙ one_selector r.0)

  -- the class
  owner : (e : ClassOf Text) × HasName i.classes c e × (e.kernel ≡ false)
  owner = user_class i c h.user_class

  class_there : In (class_names i.classes) c
  class_there = subst (In (class_names i.classes)) (sym owner.1.name) (in_map (λ (d : ClassOf Text). d.name) i.classes owner.0 owner.1.there)

  after_methods : AreSoundMethods kernel (class_names i.classes) (after canonical).methods
  after_methods = record {
    once = once_put passes (added canonical) signature (between canonical).methods between_sound.methods.once fresh;
    homes = λ m k. home m (put_in passes (added canonical) (between canonical).methods m k);
    spelled = λ m k q. good m q (put_in passes (added canonical) (between canonical).methods m k);
    behind = record { own = filter_put passes (added canonical) method_of_kernel (between canonical).methods refl ∙ between_sound.methods.behind.own; of_kernel = between_sound.methods.behind.of_kernel };
  }
    where
      home : (m : EntryOf Text) → (added canonical ≡ m) ⊎ In (between canonical).methods m → HasHome (class_names i.classes) m
      home m (inl e) = subst (HasHome (class_names i.classes)) e (c, refl, class_there)
      home m (inr k) = between_sound.methods.homes m k

      good : (m : EntryOf Text) → m.kernel ≡ false → (added canonical ≡ m) ⊎ In (between canonical).methods m → IsUserMethod (reading_of Second kernel) m
      good m q (inl e) = subst (IsUserMethod (reading_of Second kernel)) e new_spelled
      good m q (inr k) = between_sound.methods.spelled m k q

  pub extract_method_sound : IsSound kernel (effect text_asked canonical (ExtractMethod c meta t from to u) i)
  extract_method_sound = subst (IsSound kernel) (sym effect_is) (with_sound_methods kernel (between canonical) between_sound (after canonical).methods after_methods)

  pub extract_method_filed : IsFiled i → IsFiled (effect text_asked canonical (ExtractMethod c meta t from to u) i)
  extract_method_filed f = subst IsFiled (sym effect_is) (record { methods = λ m k q. stands m q (put_in passes (added canonical) (between canonical).methods m k); doits = f.doits; forms = f.forms; heads = f.heads })
    where
      old : IsFiled (with_tree text_eq canonical c meta t (part_replaced found.0.0.tree found.0.1 (call_of text_asked u found.0.0.tree found.0.1)) i)
      old = given_filed kernel i s c meta t (part_replaced found.0.0.tree found.0.1 (call_of text_asked u found.0.0.tree found.0.1)) extracted.changed (extracted.selector ∙ method.selected) low f

      stands : (m : EntryOf Text) → m.kernel ≡ false → (added canonical ≡ m) ⊎ In (between canonical).methods m → MayStand m.source
      stands m q (inl e) = subst (λ (y : EntryOf Text). MayStand y.source) e (may_stand (canonical_method (method_of text_asked u found.0.0.tree found.0.1)) (method_begins (method_of text_asked u found.0.0.tree found.0.1) new_well))
      stands m q (inr k) = old.methods m k q

  -- the kernel has no method of the class
  passing_user : (m : EntryOf Text) → In (between canonical).methods m → passes m ≡ true → m.kernel ≡ false
  passing_user m k q = by m.kernel refl
    where
      by : (b : Bool) → m.kernel ≡ b → m.kernel ≡ false
      by false e = e
      by true e =
          let class = there_passes (text_eq c) m.class (and_parts (is_method_of text_eq c m) (beq meta m.meta) q).0 in
          let home = whole.homes m (in_kernel method_of_kernel kernel.methods (between canonical).methods between_sound.methods.behind m k e) in
          let named : Some class.0 ≡ Some home.0 = sym class.1 ∙ home.1 in
          let same : class.0 ≡ home.0 = cc in
          absurd (user_name kernel i.classes s.classes c owner.0 owner.1 owner.2 (subst (In (class_names kernel.classes)) (sym (text_equal c class.0 class.2 ∙ same)) home.2))

  pub extract_method_front : AreFronts i → AreFronts (effect text_asked canonical (ExtractMethod c meta t from to u) i)
  extract_method_front f =
      subst AreFronts (sym effect_is)
      (record {
        classes = f.classes;
        methods = front_put passes (added canonical) method_of_kernel (between canonical).methods refl passing_user (front_map method_of_kernel (one canonical) i.methods (mark_kept c meta t tree) f.methods);
      })
