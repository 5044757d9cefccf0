-- The metavariables of a replacement are judged.
use Rattle.std.proofs.Common.{◌≡◌, ℕ, false, List, [], map, refl, sym, ap, ◌∙◌}
use Rattle.std.specs.Prelude.{nat_eq, filter}
use Rattle.pattern_model.specs.Patterns.{PatternOf, metas}
use Rattle.patterns.specs.View.{meta_of}
use Rattle.patterns.specs.declared.tree.Meta.{Meta}
use Rattle.pattern_trees.specs.Faults.{MetaAt, at_places, is_doubled_among, first_unknown, first_again, meta_places, unbound_in_replacement, twice_doubled}
use Rattle.pattern_faults.specs.Placed.{meta_at}
use Rattle.pattern_faults.specs.declared.searching.PlacedMeta.{PlacedMeta}
use Rattle.pattern_faults.proofs.Said.{replacement_said, unbound_told, twice_told}
use Rattle.pattern_faults.proofs.reading.judge_metas.Goals as goal

pub returns-in-Some-clause-fault : goal.returns-in-Some-clause-fault
returns-in-Some-clause-fault c =
    let p : PatternOf ℕ = c.args.pattern.now in
    let q : PatternOf ℕ = c.args.replacement.now in
    let said = c.requires.said in
    let fs : List ℕ = meta_places false said.spells.tokens in
    let known : map meta_of c.deref.result.now ≡ metas p = ap (λ (xs : List Meta). map meta_of xs) c.deref.ensures.value ∙ c.in_ok-known.ensures in
    let there : map meta_at c.deref-2.result.now ≡ at_places (metas q) fs =
    ap (λ (xs : List PlacedMeta). map meta_at xs) c.deref-2.ensures.value ∙ c.in_ok-placed.ensures said.spells.tokens said.spells.lexed in
    let unknown : c.first_unknown.result ≡ unbound_in_replacement nat_eq p q fs = c.first_unknown.ensures ∙ (λ i. first_unknown nat_eq (known i) (there i)) in
    unbound_told c.args.names.now c.len.ensures.distinct p q c.requires.pattern c.requires.replacement c.args.text.now said fs refl c.in-Some.at (sym unknown ∙ c.in-Some.is)

pub returns-in-Some-2-clause-fault : goal.returns-in-Some-2-clause-fault
returns-in-Some-2-clause-fault c =
    let p : PatternOf ℕ = c.args.pattern.now in
    let q : PatternOf ℕ = c.args.replacement.now in
    let said = c.requires.said in
    let fs : List ℕ = meta_places false said.spells.tokens in
    let known : map meta_of c.deref.result.now ≡ metas p = ap (λ (xs : List Meta). map meta_of xs) c.deref.ensures.value ∙ c.in_ok-known.ensures in
    let there : map meta_at c.deref-2.result.now ≡ at_places (metas q) fs =
    ap (λ (xs : List PlacedMeta). map meta_at xs) c.deref-2.ensures.value ∙ c.in_ok-placed.ensures said.spells.tokens said.spells.lexed in
    let unknown : c.first_unknown.result ≡ unbound_in_replacement nat_eq p q fs = c.first_unknown.ensures ∙ (λ i. first_unknown nat_eq (known i) (there i)) in
    let known_again : map meta_of c.deref-3.result.now ≡ metas p = ap (λ (xs : List Meta). map meta_of xs) c.deref-3.ensures.value ∙ c.in_ok-known.ensures in
    let there_again : map meta_at c.deref-4.result.now ≡ at_places (metas q) fs =
    ap (λ (xs : List PlacedMeta). map meta_at xs) c.deref-4.ensures.value ∙ c.in_ok-placed.ensures said.spells.tokens said.spells.lexed in
    let second : c.in_ok-at.field-0 ≡ twice_doubled nat_eq p q fs =
    c.in_ok-at.ensures ∙ (λ i. first_again nat_eq [] (filter (λ (x : MetaAt ℕ). is_doubled_among nat_eq (known_again i) x.meta) (there_again i))) in
    twice_told c.args.names.now c.len.ensures.distinct p q c.requires.pattern c.requires.replacement c.args.text.now said fs refl c.in-Some-2.at (sym unknown ∙ c.in_default.is) (sym second ∙ c.in-Some-2.is)

pub returns-clause-said : goal.returns-clause-said
returns-clause-said c =
    let p : PatternOf ℕ = c.args.pattern.now in
    let q : PatternOf ℕ = c.args.replacement.now in
    let said = c.requires.said in
    let fs : List ℕ = meta_places false said.spells.tokens in
    let known : map meta_of c.deref.result.now ≡ metas p = ap (λ (xs : List Meta). map meta_of xs) c.deref.ensures.value ∙ c.in_ok-known.ensures in
    let there : map meta_at c.deref-2.result.now ≡ at_places (metas q) fs =
    ap (λ (xs : List PlacedMeta). map meta_at xs) c.deref-2.ensures.value ∙ c.in_ok-placed.ensures said.spells.tokens said.spells.lexed in
    let unknown : c.first_unknown.result ≡ unbound_in_replacement nat_eq p q fs = c.first_unknown.ensures ∙ (λ i. first_unknown nat_eq (known i) (there i)) in
    let known_again : map meta_of c.deref-3.result.now ≡ metas p = ap (λ (xs : List Meta). map meta_of xs) c.deref-3.ensures.value ∙ c.in_ok-known.ensures in
    let there_again : map meta_at c.deref-4.result.now ≡ at_places (metas q) fs =
    ap (λ (xs : List PlacedMeta). map meta_at xs) c.deref-4.ensures.value ∙ c.in_ok-placed.ensures said.spells.tokens said.spells.lexed in
    let second : c.in_ok-at.field-0 ≡ twice_doubled nat_eq p q fs =
    c.in_ok-at.ensures ∙ (λ i. first_again nat_eq [] (filter (λ (x : MetaAt ℕ). is_doubled_among nat_eq (known_again i) x.meta) (there_again i))) in
    replacement_said c.args.names.now c.len.ensures.distinct p q c.requires.pattern c.requires.replacement c.args.text.now said fs refl (sym unknown ∙ c.in_default.is) (sym second ∙ c.in_default-2.is)
