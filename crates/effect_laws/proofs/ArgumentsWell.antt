-- Trees in which messages of one selector become messages of another one, which takes what they pass, stay well formed.
use Rattle.std.proofs.Common.{◌≡◌, ℕ, suc, ◌+◌, true, List, refl, sym, ap, ◌∙◌}
use Rattle.tree_model.specs.Tree.{TreeOf, var, literal, send, cascade, assign, block, brace, return, TreesOf, no_trees, more_trees, MessagesOf, no_messages, more_messages, StatementsOf, no_statements, more_statements}
use Rattle.tree_model.specs.Path.{count}
use Rattle.text_model.specs.Literals.{is_selector}
use Rattle.reread_law.specs.WellFormed.{AreParts, LastOne, OneBefore, FitsArguments, FitsNone, FitsOne, FitsParts, IsValue, NoReturn, IsStatement, AreTwo, WellFormed, WellFormedTrees, WellFormedMessages, WellFormedStatements}
use Rattle.file_model.specs.Filing.{Text}
use Rattle.rename_model.specs.CommandWords.{arity}
use Rattle.command_model.specs.Walk.{Making, rebuilt, rebuilt_trees, rebuilt_statements}
use Rattle.effect_laws.proofs.Arities.{fits_arity, fits_from}
use Rattle.effect_laws.proofs.ArgumentsPassed.{PassesWell, chosen, making, messages_made}

module _ (s t : Text) (passed : TreesOf Text → TreesOf Text) (taken : List Text → List Text) (good : PassesWell s t passed) (selector : is_selector t ≡ true) where
  -- a node and messages, after
  abbrev made : Making Text
  made = making s t passed taken

  abbrev after : ℕ → MessagesOf Text → MessagesOf Text
  after k ms = messages_made s t passed taken k ms

  -- the arguments that stand for others
  count_rebuilt : (k : ℕ) (xs : TreesOf Text) → count (rebuilt_trees made k xs) ≡ count xs
  count_rebuilt k no_trees = refl
  count_rebuilt k (more_trees x xs) = λ i. count_rebuilt (suc k) xs i + 1

  parts_rebuilt : (u : Text) (k : ℕ) (xs : TreesOf Text) → AreParts u xs → AreParts u (rebuilt_trees made k xs)
  parts_rebuilt u k xs (LastOne h) = LastOne h
  parts_rebuilt u k xs (OneBefore {s = r} {xs = ys} h g) = OneBefore h (parts_rebuilt r (suc k) ys g)

  fits_rebuilt : (u : Text) (k : ℕ) (xs : TreesOf Text) → FitsArguments u xs → FitsArguments u (rebuilt_trees made k xs)
  fits_rebuilt u k xs (FitsNone h) = FitsNone h
  fits_rebuilt u k xs (FitsOne h) = FitsOne h
  fits_rebuilt u k xs (FitsParts h) = FitsParts (parts_rebuilt u k xs h)

  -- the new selector fits what is passed
  fits_passed : (u : Text) (k : ℕ) (xs : TreesOf Text) → s ≡ u → FitsArguments u xs → FitsArguments t (passed (rebuilt_trees made k xs))
  fits_passed u k xs q h = fits_from t (passed (rebuilt_trees made k xs)) selector (good.number (rebuilt_trees made k xs) (ap arity q ∙ fits_arity u xs h ∙ sym (count_rebuilt k xs)))

  value_passed : (r : TreeOf Text) → IsValue r → IsValue (rebuilt made r)
  value_passed (var n) h = h
  value_passed (literal l) h = tt
  value_passed (send r u xs) h = chosen s IsValue u (send (rebuilt made r) t (passed (rebuilt_trees made 1 xs))) (send (rebuilt made r) u (rebuilt_trees made 1 xs)) (λ q. tt) tt
  value_passed (cascade r ms) h = tt
  value_passed (assign n r) h = tt
  value_passed (block ps ds ss c) h = tt
  value_passed (brace ts) h = tt
  value_passed (return r) h = h

  no_return_passed : (r : TreeOf Text) → NoReturn r → NoReturn (rebuilt made r)
  no_return_passed (var n) h = tt
  no_return_passed (literal l) h = tt
  no_return_passed (send r u xs) h = chosen s NoReturn u (send (rebuilt made r) t (passed (rebuilt_trees made 1 xs))) (send (rebuilt made r) u (rebuilt_trees made 1 xs)) (λ q. tt) tt
  no_return_passed (cascade r ms) h = tt
  no_return_passed (assign n r) h = tt
  no_return_passed (block ps ds ss c) h = tt
  no_return_passed (brace ts) h = tt
  no_return_passed (return r) h = h

  statement_passed : (r : TreeOf Text) (k : ℕ) (ss : StatementsOf Text) → IsStatement r ss → IsStatement (rebuilt made r) (rebuilt_statements made k ss)
  statement_passed (var n) k ss h = h
  statement_passed (literal l) k ss h = tt
  statement_passed (send r u xs) k ss h =
      chosen s (λ v. IsStatement v (rebuilt_statements made k ss)) u (send (rebuilt made r) t (passed (rebuilt_trees made 1 xs))) (send (rebuilt made r) u (rebuilt_trees made 1 xs)) (λ q. tt) tt
  statement_passed (cascade r ms) k ss h = tt
  statement_passed (assign n r) k ss h = tt
  statement_passed (block ps ds bs c) k ss h = tt
  statement_passed (brace ts) k ss h = tt
  statement_passed (return r) k no_statements h = tt
  statement_passed (return r) k (more_statements c u ss) h = h

  two_passed : (k : ℕ) (ms : MessagesOf Text) → AreTwo ms → AreTwo (after k ms)
  two_passed k no_messages h = h
  two_passed k (more_messages u xs no_messages) h = absurd h
  two_passed k (more_messages u xs (more_messages v zs ms)) h =
      let j = k + count xs in
      let ys = rebuilt_trees made k xs in
      let ws = rebuilt_trees made j zs in
      let rest = after (j + count zs) ms in
      chosen s AreTwo u (more_messages t (passed ys) (after j (more_messages v zs ms))) (more_messages u ys (after j (more_messages v zs ms)))
      (λ q. chosen s (λ w. AreTwo (more_messages t (passed ys) w)) v (more_messages t (passed ws) rest) (more_messages v ws rest) (λ p. tt) tt)
      (chosen s (λ w. AreTwo (more_messages u ys w)) v (more_messages t (passed ws) rest) (more_messages v ws rest) (λ p. tt) tt)

  mutual
    tree_well : (r : TreeOf Text) → WellFormed r → WellFormed (rebuilt made r)
    tree_well (var n) h = h
    tree_well (literal l) h = h
    tree_well (send r u xs) h =
        let ys = rebuilt_trees made 1 xs in
        let a = tree_well r h.0 in
        let b = no_return_passed r h.1 in
        let c = arguments_well 1 xs h.3 in
        chosen s WellFormed u (send (rebuilt made r) t (passed ys)) (send (rebuilt made r) u ys) (λ q. (a, b, fits_passed u 1 xs q h.2, good.well ys c)) (a, b, fits_rebuilt u 1 xs h.2, c)
    tree_well (cascade r ms) h = (tree_well r h.0, value_passed r h.1, two_passed 1 ms h.2, made_well 1 ms h.3)
    tree_well (assign n r) h = (h.0, tree_well r h.1, value_passed r h.2)
    tree_well (block ps ds ss c) h = (h.0, h.1, lines_well 0 ss h.2, h.3)
    tree_well (brace ts) h = arguments_well 0 ts h
    tree_well (return r) h = (tree_well r h.0, value_passed r h.1)

    arguments_well : (k : ℕ) (xs : TreesOf Text) → WellFormedTrees xs → WellFormedTrees (rebuilt_trees made k xs)
    arguments_well k no_trees h = tt
    arguments_well k (more_trees x xs) h = (tree_well x h.0, value_passed x h.1, arguments_well (suc k) xs h.2)

    made_well : (k : ℕ) (ms : MessagesOf Text) → WellFormedMessages ms → WellFormedMessages (after k ms)
    made_well k no_messages h = tt
    made_well k (more_messages u xs ms) h =
        let ys = rebuilt_trees made k xs in
        let rest = after (k + count xs) ms in
        let a = arguments_well k xs h.1 in
        let b = made_well (k + count xs) ms h.2 in
        chosen s WellFormedMessages u (more_messages t (passed ys) rest) (more_messages u ys rest) (λ q. (fits_passed u k xs q h.0, good.well ys a, b)) (fits_rebuilt u k xs h.0, a, b)

    lines_well : (k : ℕ) (ss : StatementsOf Text) → WellFormedStatements ss → WellFormedStatements (rebuilt_statements made k ss)
    lines_well k no_statements h = tt
    lines_well k (more_statements c r ss) h = (h.0, tree_well r h.1, statement_passed r (suc k) ss h.2, lines_well (suc k) ss h.3)

  pub passed-well : (ss : StatementsOf Text) → WellFormedStatements ss → WellFormedStatements (rebuilt_statements made 0 ss)
  passed-well ss h = lines_well 0 ss h
