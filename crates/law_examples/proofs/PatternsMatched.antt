-- The examples of patterns and rules are as the definitions have them.
use Rattle.std.proofs.Common.{◌≡◌, List, [], ◌∷◌, map, refl}
use Rattle.std.specs.List.{concat}
use Rattle.scope_model.specs.SpecialNames.{is_pseudo_variable}
use Rattle.pattern_model.specs.Words.{text_pattern_words}
use Rattle.pattern_model.specs.MatchTree.{match_tree}
use Rattle.pattern_model.specs.Search.{all_matches}
use Rattle.pattern_model.specs.Rewritten.{rewritten_sequence}
use Rattle.law_examples.specs.PatternExamples.{MatchRow, AllMatched, matches, RewriteRow, AllRewritten, rewritings, AllSpelled, spellings}

-- rows are right whose answers are those that stand in them
all_matched : (rs : List MatchRow) → map (λ (r : MatchRow). match_tree text_pattern_words r.pattern r.node) rs ≡ map (λ (r : MatchRow). r.bindings) rs → AllMatched rs
all_matched [] e = tt
all_matched (r ∷ rs) e =
    let first : match_tree text_pattern_words r.pattern r.node ≡ r.bindings = cc in
    let others : map (λ (r : MatchRow). match_tree text_pattern_words r.pattern r.node) rs ≡ map (λ (r : MatchRow). r.bindings) rs = cc in
    (first, all_matched rs others)

all_rewritten : (rs : List RewriteRow) → map (λ (r : RewriteRow). all_matches text_pattern_words r.rule.pattern r.before) rs ≡ map (λ (r : RewriteRow). r.paths) rs
    → map (λ (r : RewriteRow). rewritten_sequence text_pattern_words concat r.rule r.before) rs ≡ map (λ (r : RewriteRow). r.after) rs → AllRewritten rs
all_rewritten [] e f = tt
all_rewritten (r ∷ rs) e f =
    let first : all_matches text_pattern_words r.rule.pattern r.before ≡ r.paths = cc in
    let second : rewritten_sequence text_pattern_words concat r.rule r.before ≡ r.after = cc in
    let others : map (λ (r : RewriteRow). all_matches text_pattern_words r.rule.pattern r.before) rs ≡ map (λ (r : RewriteRow). r.paths) rs = cc in
    let rest : map (λ (r : RewriteRow). rewritten_sequence text_pattern_words concat r.rule r.before) rs ≡ map (λ (r : RewriteRow). r.after) rs = cc in
    (first, second, all_rewritten rs others rest)

pub matches_right : AllMatched matches
unfolding is_pseudo_variable
matches_right = all_matched matches refl

pub rewritings_right : AllRewritten rewritings
unfolding is_pseudo_variable
rewritings_right = all_rewritten rewritings refl refl

pub spellings_right : AllSpelled spellings
spellings_right = (refl, (refl, (refl, (refl, (refl, tt)))))
