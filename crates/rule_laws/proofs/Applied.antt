-- The image after a rule with a certificate comes from the image before by laws of rewriting.
use Rattle.std.proofs.Common.{◌≡◌, List, [], ◌∷◌, ◌++◌, map, refl, subst}
use Rattle.std.specs.Prelude.{Bool, true, false, ◌&&◌, if◌then◌else◌}
use Rattle.std.specs.List.{AllZip, concat}
use Rattle.std.proofs.lemmas.Bool.{and_parts}
use Rattle.std.specs.Cmp.Lexicographic.{pointwise}
use Rattle.rb_base.specs.Names.{text_eq}
use Rattle.tree_model.specs.Tree.{StatementsOf, SequenceOf, MethodOf}
use Rattle.tree_model.specs.Bare.{bare_statements}
use Rattle.same_trees.specs.SameTrees.{same_statements, same_sequence, same_code}
use Rattle.same_trees.proofs.Told.{text_told, statements_told}
use Rattle.image_model.specs.Image.{EntryOf, DoItOf, ImageOf}
use Rattle.text_model.specs.Whole.{canonical_method, canonical_doit}
use Rattle.run_model.specs.Renamings.{no_renaming}
use Rattle.run_model.specs.Matched.{AreMatched}
use Rattle.pattern_model.specs.Words.{text_pattern_words, AreWords}
use Rattle.pattern_model.specs.Matches.{IsLawful}
use Rattle.pattern_model.specs.Rewritten.{RuleOf, each_statement, rewritten, rewritten_sequence, rewritten_method}
use Rattle.certified_laws.specs.RewrittenTrees.{LinesRewritten, method_with, doit_with, MethodRewritten, DoItRewritten, ImageRewritten, RewrittenAlong}
use Rattle.certified_model.specs.Marks.{Text}
use Rattle.certified_model.specs.Certificates.{CertStep, derives}
use Rattle.certified_rules.specs.RulesApplied.{by_rule}
use Rattle.certified_rules.proofs.ChangedImages.{images-changed, changed, is-changed}
use Rattle.certified_rules.proofs.SameRule.{to-bare-lines, from-bare-lines}
use Rattle.certified_rules.proofs.CertifiedRule.{derived-along}
use Rattle.certified_rules.proofs.DerivedSteps.{derived-steps}
use Rattle.rewrite_model.specs.Notes.{same_notes, equal_sequence, equal_method}
use Rattle.rewrite_model.specs.Rewritten.{retold_entry, rewritten_entry, rewritten_doit, rewritten_image}

-- rows one after the other
along_then : (i : ImageOf Text) (ks : List (ImageOf Text)) (j : ImageOf Text) (ls : List (ImageOf Text)) (k : ImageOf Text) → RewrittenAlong i ks j → RewrittenAlong j ls k → RewrittenAlong i (ks ++ j ∷ ls) k
along_then i [] j ls k h g = (h, g)
along_then i (x ∷ ks) j ls k h g = (h.0, along_then x ks j ls k h.1 g)

zipped : {X Y : Type 0} (P : Y → Y → Type 0) (f g : X → Y) (xs : List X) → ((x : X) → P (f x) (g x)) → AllZip P (map f xs) (map g xs)
zipped P f g [] h = tt
zipped P f g (x ∷ xs) h = (h x, zipped P f g xs h)

-- code that is equal, without its comments
equal_lines : (a b : SequenceOf Text) → equal_sequence text_eq a b ≡ true → bare_statements a.statements ≡ bare_statements b.statements
equal_lines a b e =
    let h = and_parts (same_sequence text_eq a b) (same_notes a b) e in
    let g = and_parts (pointwise text_eq a.temporaries b.temporaries) (same_statements text_eq a.statements b.statements) h.0 in
    statements_told text_eq text_told a.statements b.statements g.1

equal_code : (m n : MethodOf Text) → equal_method text_eq m n ≡ true → bare_statements m.body.statements ≡ bare_statements n.body.statements
equal_code m n e =
    let h = and_parts (same_code text_eq m n) (pointwise text_eq m.head n.head && same_notes m.body n.body) e in
    let g = and_parts (text_eq m.selector n.selector) _ h.0 in
    let k = and_parts (pointwise text_eq m.arguments n.arguments) _ g.1 in
    let l = and_parts _ (same_sequence text_eq m.body n.body) k.1 in
    let s = and_parts (pointwise text_eq m.body.temporaries n.body.temporaries) (same_statements text_eq m.body.statements n.body.statements) l.1 in
    statements_told text_eq text_told m.body.statements n.body.statements s.1

module _ (r : RuleOf Text) where
  abbrev ruled : StatementsOf Text → StatementsOf Text
  ruled ss = each_statement (rewritten text_pattern_words concat r) ss

  -- the rule without comments, in code that is no kernel's
  abbrev barely : Bool → StatementsOf Text → StatementsOf Text
  barely kernel ss = bare_statements (by_rule r kernel ss)

  abbrev entry_before : EntryOf Text → StatementsOf Text → EntryOf Text
  entry_before m ss = method_with m m.source m.tree.head ss m.tree.body.tail

  entry_after : (m : EntryOf Text) → MethodRewritten (method_with m m.source m.tree.head (barely m.kernel m.tree.body.statements) m.tree.body.tail) (rewritten_entry r m)
  entry_after m = by m.kernel refl
    where
      tree : MethodOf Text
      tree = rewritten_method text_pattern_words concat r m.tree

      user : (b : Bool) → equal_method text_eq m.tree tree ≡ b → MethodRewritten (entry_before m (bare_statements (ruled m.tree.body.statements))) (if b then m else record m { tree = tree; source = canonical_method tree })
      user true e = (
        m.source,
        m.tree.head,
        m.tree.body.statements,
        m.tree.body.tail,
        refl,
        subst (λ (ss : StatementsOf Text). LinesRewritten ss m.tree.body.statements) (equal_code m.tree tree e) (from-bare-lines m.tree.body.statements),
      )
      user false e = (canonical_method tree, m.tree.head, ruled m.tree.body.statements, m.tree.body.tail, refl, from-bare-lines (ruled m.tree.body.statements))

      by : (b : Bool) → m.kernel ≡ b → MethodRewritten (entry_before m (bare_statements (if b then m.tree.body.statements else ruled m.tree.body.statements))) (if b then m else retold_entry m tree)
      by true e = (m.source, m.tree.head, m.tree.body.statements, m.tree.body.tail, refl, from-bare-lines m.tree.body.statements)
      by false e = user (equal_method text_eq m.tree tree) refl

  doit_after : (d : DoItOf Text) → DoItRewritten (doit_with d d.source (barely false d.body.statements) d.body.tail) (rewritten_doit r d)
  doit_after d = by (equal_sequence text_eq d.body body) refl
    where
      body : SequenceOf Text
      body = rewritten_sequence text_pattern_words concat r d.body

      by : (b : Bool) → equal_sequence text_eq d.body body ≡ b → DoItRewritten (doit_with d d.source (bare_statements (ruled d.body.statements)) d.body.tail) (if b then d else record d { body = body; source = canonical_doit body })
      by true e = (
        d.source,
        d.body.statements,
        d.body.tail,
        refl,
        subst (λ (ss : StatementsOf Text). LinesRewritten ss d.body.statements) (equal_lines d.body body e) (from-bare-lines d.body.statements),
      )
      by false e = (canonical_doit body, ruled d.body.statements, d.body.tail, refl, from-bare-lines (ruled d.body.statements))

  last_step : (i : ImageOf Text) → ImageRewritten (changed barely i) (rewritten_image r i)
  last_step i = record {
    classes = refl;
    methods = zipped MethodRewritten (λ (m : EntryOf Text). method_with m m.source m.tree.head (barely m.kernel m.tree.body.statements) m.tree.body.tail) (rewritten_entry r) i.methods entry_after;
    doits = zipped DoItRewritten (λ (d : DoItOf Text). doit_with d d.source (barely false d.body.statements) d.body.tail) (rewritten_doit r) i.doits doit_after;
  }

-- a row of images leads to the image after
pub record LeadsAfter (r : RuleOf Text) (i : ImageOf Text) : Type 0 where
  pub between : List (ImageOf Text)
  pub along : RewrittenAlong i between (rewritten_image r i)

pub leads_after : AreWords text_pattern_words concat → (r : RuleOf Text) (xs : List CertStep) (i : ImageOf Text) → IsLawful r.pattern → derives xs r.pattern r.replacement ≡ true → LeadsAfter r i
leads_after known r xs i lawful derived =
    let rule : ImageOf Text = changed (by_rule r) i in
    let bare_rule : ImageOf Text = changed (barely r) i in
    let row = derived-along known r.pattern lawful i rule r.replacement (derived-steps xs r.pattern r.replacement derived) (is-changed (by_rule r) i) in
    let next : ImageRewritten rule bare_rule = images-changed (by_rule r) (barely r) (λ kernel ss. to-bare-lines (by_rule r kernel ss)) i rule bare_rule (is-changed (by_rule r) i) (is-changed (barely r) i) in
    record {
      between = row.0 ++ rule ∷ bare_rule ∷ [];
      along = along_then i row.0 rule (bare_rule ∷ []) (rewritten_image r i) row.1 (next, last_step r i);
    }

pub rule_matched : AreWords text_pattern_words concat → ((i : ImageOf Text) (ks : List (ImageOf Text)) (j : ImageOf Text) → RewrittenAlong i ks j → AreMatched i j no_renaming) →
    (r : RuleOf Text) (xs : List CertStep) (i : ImageOf Text) → IsLawful r.pattern → derives xs r.pattern r.replacement ≡ true → AreMatched i (rewritten_image r i) no_renaming
rule_matched known along r xs i lawful derived = let row = leads_after known r xs i lawful derived in along i row.between (rewritten_image r i) row.along
