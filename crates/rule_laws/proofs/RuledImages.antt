-- A rule with a certificate keeps images valid, fileable, and behind the kernel, where no tree is too high afterwards.
use Rattle.std.proofs.Common.{◌≡◌, ◌⊎◌, inl, inr, ℕ, ◌≤◌, Bool, true, false, List, [], ◌∷◌, map, length, refl, sym, ap, subst, ◌∙◌, arith}
use Rattle.std.specs.Prelude.{◌||◌, if◌then◌else◌, nat_le}
use Rattle.std.specs.List.{list_all, concat}
use Rattle.std.proofs.lemmas.Bool.{and_parts, and_from, leb-true}
use Rattle.std.specs.Cmp.Lexicographic.{pointwise}
use Rattle.rb_base.proofs.NamesLemmas.{text_eq-refl}
use Rattle.same_trees.specs.SameTrees.{same_statements, same_sequence}
use Rattle.same_trees.proofs.Told.{pointwise_refl, statements_same}
use Rattle.std.proofs.lemmas.Simd.{map-map}
use Rattle.rb_base.specs.Names.{text_eq}
use Rattle.token_model.specs.declared.kind.Dialect.TheVariants.{Second}
use Rattle.tree_model.specs.Tree.{StatementsOf, no_statements, more_statements, SequenceOf, MethodOf}
use Rattle.tree_model.specs.Measure.{sequence_height}
use Rattle.text_model.specs.Whole.{canonical_method, canonical_doit}
use Rattle.image_model.specs.Image.{EntryOf, DoItOf, ImageOf}
use Rattle.image_model.specs.Words.{text_words}
use Rattle.image_model.specs.Valid.{class_names, signature, IsUserMethod, IsUserDoIt, IsValid, IsFileable}
use Rattle.reread_law.specs.WholeTrees.{WellFormedDoIt, WellFormedMethod}
use Rattle.reread_law.proofs.Starting.{well_formed_doit}
use Rattle.file_model.specs.Filing.{Text}
use Rattle.file_model.specs.Fileable.{reading_of, MayStand}
use Rattle.file_model.specs.Forms.{Evaluates, form_of}
use Rattle.file_laws.specs.Fronts.{method_of_kernel}
use Rattle.file_rereading.specs.Rereading.{KernelFirst}
use Rattle.pattern_model.specs.Words.{text_pattern_words, AreWords}
use Rattle.pattern_model.specs.Matches.{IsLawful}
use Rattle.pattern_model.specs.Rewritten.{RuleOf, each_statement, rewritten, rewritten_sequence, rewritten_method}
use Rattle.certified_model.specs.Certificates.{CertStep, derives}
use Rattle.rewrite_model.specs.Notes.{all_notes, same_notes, equal_sequence, equal_method}
use Rattle.rewrite_model.specs.Rewritten.{retold_entry, rewritten_entry, rewritten_doit, rewritten_image}
use Rattle.command_model.specs.ParameterConditions.{is_shallow}
use Rattle.effect_laws.proofs.Items.{In, Once, in_map, map_in, all_in, in_all}
use Rattle.effect_laws.proofs.Fronts.{behind_map}
use Rattle.effect_laws.proofs.Kernel.{all_pass}
use Rattle.effect_laws.proofs.Sound.{HasHome, AreSoundMethods, IsSound, sound_of, valid_of}
use Rattle.effect_laws.proofs.WholeTrees.{IsWritten, well_of, written_method, written_doit}
use Rattle.effect_laws.proofs.Filed.{IsFiled, filed_of, fileable, method_stands, doit_stands}
use Rattle.effect_laws.proofs.KernelInFront.{AreFronts, fronts_of, first_of, front_map}
use Rattle.rule_kept.specs.PatternComments.{HasComments}
use Rattle.rule_kept.proofs.RuledTrees.{method_kept, doit_kept}
use Rattle.rule_laws.proofs.Applied.{leads_after}
use Rattle.rule_laws.proofs.FormsKept.{forms_along}

-- a method of the user, and a do-it, in an image of low trees
shallow_method : (i : ImageOf Text) → is_shallow i ≡ true → (m : EntryOf Text) → In i.methods m → m.kernel ≡ false → sequence_height m.tree.body ≤ 200
shallow_method i h m there user =
    let a = and_parts (list_all (λ (x : EntryOf Text). x.kernel || nat_le (sequence_height x.tree.body) 200) i.methods) (list_all (λ (d : DoItOf Text). nat_le (sequence_height d.body) 200) i.doits) h in
    let b = all_pass (λ (x : EntryOf Text). x.kernel || nat_le (sequence_height x.tree.body) 200) i.methods a.0 m there in
    leb-true (sequence_height m.tree.body) 200 (ap (λ k. k || nat_le (sequence_height m.tree.body) 200) (sym user) ∙ b)

shallow_doit : (i : ImageOf Text) → is_shallow i ≡ true → (d : DoItOf Text) → In i.doits d → sequence_height d.body ≤ 200
shallow_doit i h d there =
    let a = and_parts (list_all (λ (x : EntryOf Text). x.kernel || nat_le (sequence_height x.tree.body) 200) i.methods) (list_all (λ (e : DoItOf Text). nat_le (sequence_height e.body) 200) i.doits) h in
    leb-true (sequence_height d.body) 200 (all_pass (λ (e : DoItOf Text). nat_le (sequence_height e.body) 200) i.doits a.1 d there)

-- a do-it is equal to itself
equal_self : (a : SequenceOf Text) → equal_sequence text_eq a a ≡ true
equal_self a =
    and_from (same_sequence text_eq a a) (same_notes a a)
    (and_from (pointwise text_eq a.temporaries a.temporaries) (same_statements text_eq a.statements a.statements) (pointwise_refl text_eq text_eq-refl a.temporaries) (statements_same text_eq text_eq-refl a.statements a.statements refl))
    (pointwise_refl (pointwise text_eq) (pointwise_refl text_eq text_eq-refl) (all_notes a))

as_many : {X Y : Type 0} (f : X → Y) (xs : List X) → length (map f xs) ≡ length xs
as_many f [] = refl
as_many f (x ∷ xs) = let rest = as_many f xs in omega (arith, rest)

module _ (known : AreWords text_pattern_words concat) (kernel i : ImageOf Text) (s : IsSound kernel i) (r : RuleOf Text) (xs : List CertStep) (lawful : IsLawful r.pattern) (comments : HasComments r.replacement)
    (derived : derives xs r.pattern r.replacement ≡ true) (shallow : is_shallow (rewritten_image r i) ≡ true) where
  -- a method after
  abbrev g : EntryOf Text → EntryOf Text
  g m = rewritten_entry r m

  abbrev tree : EntryOf Text → MethodOf Text
  tree m = rewritten_method text_pattern_words concat r m.tree

  abbrev Either : EntryOf Text → Type 0
  Either m = (g m ≡ m) ⊎ (g m ≡ record m { tree = tree m; source = canonical_method (tree m) })

  either : (m : EntryOf Text) → Either m
  either m = by m.kernel
    where
      user : (b : Bool) → ((if b then m else record m { tree = tree m; source = canonical_method (tree m) }) ≡ m) ⊎ ((if b then m else record m { tree = tree m; source = canonical_method (tree m) }) ≡ record m { tree = tree m; source = canonical_method (tree m) })
      user true = inl refl
      user false = inr refl

      by : (b : Bool) → ((if b then m else retold_entry m (tree m)) ≡ m) ⊎ ((if b then m else retold_entry m (tree m)) ≡ record m { tree = tree m; source = canonical_method (tree m) })
      by true = inl refl
      by false = user (equal_method text_eq m.tree (tree m))

  fixed : (m : EntryOf Text) → m.kernel ≡ true → g m ≡ m
  fixed m e = ap (λ (b : Bool). if b then m else retold_entry m (tree m)) e

  signed : (m : EntryOf Text) → signature (g m) ≡ signature m
  signed m = by (either m)
    where
      by : Either m → signature (g m) ≡ signature m
      by (inl e) = ap signature e
      by (inr e) = ap signature e

  mark : (m : EntryOf Text) → (g m).kernel ≡ m.kernel
  mark m = by (either m)
    where
      by : Either m → (g m).kernel ≡ m.kernel
      by (inl e) = ap (λ (y : EntryOf Text). y.kernel) e
      by (inr e) = ap (λ (y : EntryOf Text). y.kernel) e

  low : (m : EntryOf Text) → In i.methods m → m.kernel ≡ false → sequence_height (g m).tree.body ≤ 200
  low m k u = shallow_method (rewritten_image r i) shallow (g m) (in_map g i.methods m k) (mark m ∙ u)

  well : (m : EntryOf Text) → In i.methods m → m.kernel ≡ false → WellFormedMethod false (g m).tree
  well m k u = by (either m)
    where
      old : WellFormedMethod false m.tree
      old = well_of kernel m (s.methods.spelled m k u)

      by : Either m → WellFormedMethod false (g m).tree
      by (inl e) = subst (λ (n : EntryOf Text). WellFormedMethod false n.tree) (sym e) old
      by (inr e) =
          subst (λ (n : EntryOf Text). WellFormedMethod false n.tree) (sym e)
          (method_kept known r.pattern r.replacement lawful comments xs derived m.tree old (subst (λ (n : EntryOf Text). sequence_height n.tree.body ≤ 200) e (low m k u)))

  written : (m : EntryOf Text) → IsWritten canonical_method m.source (g m).source m.tree (g m).tree
  written m = by (either m)
    where
      by : Either m → IsWritten canonical_method m.source (g m).source m.tree (g m).tree
      by (inl e) = inr (ap (λ (n : EntryOf Text). n.source) e, ap (λ (n : EntryOf Text). n.tree) e)
      by (inr e) = inl (ap (λ (n : EntryOf Text). n.source) e ∙ ap (λ (n : EntryOf Text). canonical_method n.tree) (sym e))

  spelled : (m : EntryOf Text) → In i.methods m → m.kernel ≡ false → IsUserMethod (reading_of Second kernel) (g m)
  spelled m k u = written_method kernel m (g m) (s.methods.spelled m k u) (well m k u) (written m)

  methods_sound : AreSoundMethods kernel (class_names i.classes) (map g i.methods)
  methods_sound = record {
    once = subst Once (sym (map-map signature g i.methods ∙ (λ j. map (λ (m : EntryOf Text). signed m j) i.methods))) s.methods.once;
    homes = λ m k. (let q = map_in g i.methods m k in subst (HasHome (class_names i.classes)) q.2 (home q.0 (s.methods.homes q.0 q.1)));
    spelled = λ m k u. (let q = map_in g i.methods m k in subst (IsUserMethod (reading_of Second kernel)) q.2 (spelled q.0 q.1 (sym (mark q.0) ∙ ap (λ (n : EntryOf Text). n.kernel) q.2 ∙ u)));
    behind = behind_map method_of_kernel kernel.methods i.methods s.methods.behind g (λ m h. fixed m (s.methods.behind.of_kernel m h)) (λ m k q. mark m ∙ q);
  }
    where
      home : (m : EntryOf Text) → HasHome (class_names i.classes) m → HasHome (class_names i.classes) (g m)
      home m q = (q.0, ap (λ (u : _). u.0) (signed m) ∙ q.1, q.2)

  -- a do-it after
  abbrev f : DoItOf Text → DoItOf Text
  f d = rewritten_doit r d

  abbrev body : DoItOf Text → SequenceOf Text
  body d = rewritten_sequence text_pattern_words concat r d.body

  abbrev EitherDoIt : DoItOf Text → Type 0
  EitherDoIt d = (f d ≡ d) ⊎ (f d ≡ record d { body = body d; source = canonical_doit (body d) })

  either_doit : (d : DoItOf Text) → EitherDoIt d
  either_doit d = by (equal_sequence text_eq d.body (body d))
    where
      by : (b : Bool) → ((if b then d else record d { body = body d; source = canonical_doit (body d) }) ≡ d) ⊎ ((if b then d else record d { body = body d; source = canonical_doit (body d) }) ≡ record d { body = body d; source = canonical_doit (body d) })
      by true = inl refl
      by false = inr refl

  doit_well : (d : DoItOf Text) → In i.doits d → WellFormedDoIt (f d).body
  doit_well d k = by (either_doit d)
    where
      old : WellFormedDoIt d.body
      old = well_formed_doit d.source d.body (s.doits d k).spells

      by : EitherDoIt d → WellFormedDoIt (f d).body
      by (inl e) = subst (λ (x : DoItOf Text). WellFormedDoIt x.body) (sym e) old
      by (inr e) =
          subst (λ (x : DoItOf Text). WellFormedDoIt x.body) (sym e)
          (doit_kept known r.pattern r.replacement lawful comments xs derived d.body old (subst (λ (x : DoItOf Text). sequence_height x.body ≤ 200) e (shallow_doit (rewritten_image r i) shallow (f d) (in_map f i.doits d k))))

  doit_written : (d : DoItOf Text) → IsWritten canonical_doit d.source (f d).source d.body (f d).body
  doit_written d = by (either_doit d)
    where
      by : EitherDoIt d → IsWritten canonical_doit d.source (f d).source d.body (f d).body
      by (inl e) = inr (ap (λ (x : DoItOf Text). x.source) e, ap (λ (x : DoItOf Text). x.body) e)
      by (inr e) = inl (ap (λ (x : DoItOf Text). x.source) e ∙ ap (λ (x : DoItOf Text). canonical_doit x.body) (sym e))

  doit_spelled : (d : DoItOf Text) → In i.doits d → IsUserDoIt (reading_of Second kernel) (f d)
  doit_spelled d k = written_doit kernel d (f d) (s.doits d k) (doit_well d k) (doit_written d)

  pub rule_sound : IsSound kernel (rewritten_image r i)
  rule_sound = record {
    classes = s.classes;
    methods = methods_sound;
    doits = λ d k. (let q = map_in f i.doits d k in subst (IsUserDoIt (reading_of Second kernel)) q.2 (doit_spelled q.0 q.1));
  }

  pub rule_front : AreFronts i → AreFronts (rewritten_image r i)
  rule_front h = record { classes = h.classes; methods = front_map method_of_kernel g i.methods mark h.methods }

  -- what has no statements is as it was
  nothing_there : (d : DoItOf Text) → (f d).body.statements ≡ no_statements → (f d).source ≡ d.source
  nothing_there d none = ap (λ (b : SequenceOf Text). (if equal_sequence text_eq d.body b then d else record d { body = b; source = canonical_doit b }).source) same ∙ ap (λ (c : Bool). (if c then d else record d { body = d.body; source = canonical_doit d.body }).source) (equal_self d.body)
    where
      emptied : (ss : StatementsOf Text) → each_statement (rewritten text_pattern_words concat r) ss ≡ no_statements → ss ≡ no_statements
      emptied no_statements e = refl
      emptied (more_statements c t ss) e = let bad : ⊥ = cc in absurd bad

      by : EitherDoIt d → d.body.statements ≡ no_statements
      by (inl e) = ap (λ (x : DoItOf Text). x.body.statements) (sym e) ∙ none
      by (inr e) = emptied d.body.statements (ap (λ (x : DoItOf Text). x.body.statements) (sym e) ∙ none)

      empty : d.body.statements ≡ no_statements
      empty = by (either_doit d)

      same : body d ≡ d.body
      same = (λ j. record d.body { statements = each_statement (rewritten text_pattern_words concat r) (empty j) }) ∙ (λ j. record d.body { statements = sym empty j })

  pub rule_filed : IsFiled i → IsFiled (rewritten_image r i)
  rule_filed h = record {
    methods = λ m k u. (let q = map_in g i.methods m k in
        let user : q.0.kernel ≡ false = sym (mark q.0) ∙ ap (λ (n : EntryOf Text). n.kernel) q.2 ∙ u in
        subst (λ (n : EntryOf Text). MayStand n.source) q.2 (method_stands kernel q.0 (g q.0) (spelled q.0 q.1 user) (written q.0) (h.methods q.0 q.1 user)));
    doits = λ d k. (let q = map_in f i.doits d k in subst (λ (x : DoItOf Text). MayStand x.source) q.2 (doit_stands kernel q.0 (f q.0) (doit_spelled q.0 q.1) (doit_written q.0) (nothing_there q.0) (h.doits q.0 q.1)));
    forms = λ d k. (let row = leads_after known r xs i lawful derived in
        all_in (λ (x : DoItOf Text). form_of Second false x.body ≡ Evaluates) (rewritten_image r i).doits
        (forms_along i row.between (rewritten_image r i) row.along (in_all (λ (x : DoItOf Text). form_of Second false x.body ≡ Evaluates) i.doits h.forms)) d k);
    heads = subst (λ (n : ℕ). i.heads ≤ n) (sym (as_many f i.doits)) h.heads;
  }

module _ (known : AreWords text_pattern_words concat) (kernel i : ImageOf Text) (v : IsValid text_words (reading_of Second kernel) i) (r : RuleOf Text) (xs : List CertStep) (lawful : IsLawful r.pattern) (comments : HasComments r.replacement)
    (derived : derives xs r.pattern r.replacement ≡ true) (shallow : is_shallow (rewritten_image r i) ≡ true) where
  its_sound : IsSound kernel i
  its_sound = sound_of kernel i v

  after_sound : IsSound kernel (rewritten_image r i)
  after_sound = rule_sound known kernel i its_sound r xs lawful comments derived shallow

  pub rule_valid : IsValid text_words (reading_of Second kernel) (rewritten_image r i)
  rule_valid = valid_of kernel (rewritten_image r i) after_sound

  pub rule_fileable : IsFileable (reading_of Second kernel) i → IsFileable (reading_of Second kernel) (rewritten_image r i)
  rule_fileable f = fileable kernel (rewritten_image r i) after_sound (rule_filed known kernel i its_sound r xs lawful comments derived shallow (filed_of kernel i its_sound f))

  pub rule_first : KernelFirst kernel i → KernelFirst kernel (rewritten_image r i)
  rule_first f = first_of kernel (rewritten_image r i) after_sound (rule_front known kernel i its_sound r xs lawful comments derived shallow (fronts_of kernel i its_sound f))
