-- Trees that may stand where others stand, whatever names are known there: they are proper where the others are, and returns or values where the others are.
use Rattle.std.proofs.Common.{inl, inr, List, [], ◌++◌}
use Rattle.tree_model.specs.Tree.{TreeOf, send, cascade, assign, block, brace, return, TreesOf, no_trees, more_trees, MessagesOf, no_messages, more_messages, StatementsOf, more_statements}
use Rattle.grammar_model.specs.Checks.{Known}
use Rattle.reread_law.specs.WellFormed.{LastOne, OneBefore, AreParts, FitsNone, FitsOne, FitsParts, FitsArguments, AreTwo}
use Rattle.reread_law.specs.Declarations.{known_names}
use Rattle.file_model.specs.Filing.{Text}
use Rattle.code_effect_laws.proofs.Proper.{IsProper, AreProper, AreProperMessages, AreProperStatements}
use Rattle.code_effect_laws.proofs.Stands.{IsEnd, return_returns, StandsFor, itself_stands, statement_before, stands_statement, stands_no_return, stands_value}

stands_then : (c d e : TreeOf Text) → StandsFor c d → StandsFor d e → StandsFor c e
stands_then c d e (inl r) (inl q) = inl (r.0, q.1)
stands_then c d e (inl r) (inr q) = absurd (return_returns d r.1 q.0)
stands_then c d e (inr r) (inl q) = absurd (return_returns d q.0 r.1)
stands_then c d e (inr r) (inr q) = inr (r.0, q.1, λ v. q.2 (r.2 v))

-- a tree
pub record Kept (t u : TreeOf Text) : Type 0 where
  pub proper : (ks : List Known) → IsProper ks t → IsProper ks u
  pub stands : StandsFor t u

pub kept_itself : (t : TreeOf Text) → Kept t t
kept_itself t = record { proper = λ ks h. h; stands = itself_stands t }

pub kept_then : (t u v : TreeOf Text) → Kept t u → Kept u v → Kept t v
kept_then t u v h k = record { proper = λ ks p. k.proper ks (h.proper ks p); stands = stands_then t u v h.stands k.stands }

-- as many trees
abbrev pub SameCount : TreesOf Text → TreesOf Text → Type 0
SameCount no_trees no_trees = Unit {0}
SameCount no_trees (more_trees u us) = ⊥
SameCount (more_trees t ts) no_trees = ⊥
SameCount (more_trees t ts) (more_trees u us) = SameCount ts us

parts_same : {s : Text} {xs : TreesOf Text} → AreParts s xs → (ys : TreesOf Text) → SameCount xs ys → AreParts s ys
parts_same (LastOne k) no_trees c = absurd c
parts_same (LastOne k) (more_trees y no_trees) c = LastOne k
parts_same (LastOne k) (more_trees y (more_trees z ys)) c = absurd c
parts_same (OneBefore k p) no_trees c = absurd c
parts_same (OneBefore k p) (more_trees y ys) c = OneBefore k (parts_same p ys c)

pub fits_same : {s : Text} {xs : TreesOf Text} → FitsArguments s xs → (ys : TreesOf Text) → SameCount xs ys → FitsArguments s ys
fits_same (FitsNone w) no_trees c = FitsNone w
fits_same (FitsNone w) (more_trees y ys) c = absurd c
fits_same (FitsOne o) no_trees c = absurd c
fits_same (FitsOne o) (more_trees y no_trees) c = FitsOne o
fits_same (FitsOne o) (more_trees y (more_trees z ys)) c = absurd c
fits_same (FitsParts p) ys c = FitsParts (parts_same p ys c)

-- trees
pub record KeptAll (ts us : TreesOf Text) : Type 0 where
  pub proper : (ks : List Known) → AreProper ks ts → AreProper ks us
  pub count : SameCount ts us

count_itself : (ts : TreesOf Text) → SameCount ts ts
count_itself no_trees = tt
count_itself (more_trees t ts) = count_itself ts

pub all_itself : (ts : TreesOf Text) → KeptAll ts ts
all_itself ts = record { proper = λ ks h. h; count = count_itself ts }

pub all_more : (t u : TreeOf Text) (ts us : TreesOf Text) → Kept t u → KeptAll ts us → KeptAll (more_trees t ts) (more_trees u us)
all_more t u ts us k r = record { proper = λ ks h. (k.proper ks h.0, stands_value t u k.stands h.1, r.proper ks h.2); count = r.count }

-- as many messages
abbrev pub SameMessages : MessagesOf Text → MessagesOf Text → Type 0
SameMessages no_messages no_messages = Unit {0}
SameMessages no_messages (more_messages s xs ms) = ⊥
SameMessages (more_messages s xs ms) no_messages = ⊥
SameMessages (more_messages s xs ms) (more_messages t ys ns) = SameMessages ms ns

two_same : (ms ns : MessagesOf Text) → SameMessages ms ns → AreTwo ms → AreTwo ns
two_same no_messages ns c h = absurd h
two_same (more_messages s xs no_messages) ns c h = absurd h
two_same (more_messages s xs (more_messages t ys ms)) no_messages c h = absurd c
two_same (more_messages s xs (more_messages t ys ms)) (more_messages u zs no_messages) c h = absurd c
two_same (more_messages s xs (more_messages t ys ms)) (more_messages u zs (more_messages v ws ns)) c h = tt

-- messages
pub record KeptMessages (ms ns : MessagesOf Text) : Type 0 where
  pub proper : (ks : List Known) → AreProperMessages ks ms → AreProperMessages ks ns
  pub count : SameMessages ms ns

messages_count : (ms : MessagesOf Text) → SameMessages ms ms
messages_count no_messages = tt
messages_count (more_messages s xs ms) = messages_count ms

pub messages_itself : (ms : MessagesOf Text) → KeptMessages ms ms
messages_itself ms = record { proper = λ ks h. h; count = messages_count ms }

pub messages_more : (s : Text) (xs ys : TreesOf Text) (ms ns : MessagesOf Text) → KeptAll xs ys → KeptMessages ms ns → KeptMessages (more_messages s xs ms) (more_messages s ys ns)
messages_more s xs ys ms ns k r = record { proper = λ ks h. (fits_same h.0 ys k.count, k.proper ks h.1, r.proper ks h.2); count = r.count }

-- statements, which end where the others do
pub record KeptLines (ss rs : StatementsOf Text) : Type 0 where
  pub proper : (ks : List Known) → AreProperStatements ks ss → AreProperStatements ks rs
  pub ends : IsEnd ss → IsEnd rs

pub lines_itself : (ss : StatementsOf Text) → KeptLines ss ss
lines_itself ss = record { proper = λ ks h. h; ends = λ e. e }

pub lines_more : (t u : TreeOf Text) (ss rs : StatementsOf Text) → Kept t u → KeptLines ss rs → KeptLines (more_statements [] t ss) (more_statements [] u rs)
lines_more t u ss rs k r = record {
  proper = λ ks h. (tt, k.proper ks h.1, stands_statement t u rs k.stands (statement_before t ss rs r.ends h.2), r.proper ks h.3);
  ends = λ e. e;
}

-- nodes
pub kept_send : (r q : TreeOf Text) (s : Text) (xs ys : TreesOf Text) → Kept r q → KeptAll xs ys → Kept (send r s xs) (send q s ys)
kept_send r q s xs ys k a = record {
  proper = λ ks h. (k.proper ks h.0, stands_no_return r q k.stands h.1, fits_same h.2 ys a.count, a.proper ks h.3);
  stands = inr (tt, tt, λ v. v);
}

pub kept_cascade : (r q : TreeOf Text) (ms ns : MessagesOf Text) → Kept r q → KeptMessages ms ns → Kept (cascade r ms) (cascade q ns)
kept_cascade r q ms ns k a = record {
  proper = λ ks h. (k.proper ks h.0, stands_value r q k.stands h.1, two_same ms ns a.count h.2, a.proper ks h.3);
  stands = inr (tt, tt, λ v. v);
}

pub kept_assign : (n : Text) (t u : TreeOf Text) → Kept t u → Kept (assign n t) (assign n u)
kept_assign n t u k = record {
  proper = λ ks h. (h.0, h.1, h.2, k.proper ks h.3, stands_value t u k.stands h.4);
  stands = inr (tt, tt, λ v. v);
}

pub kept_block : (ps ds : List Text) (ss rs : StatementsOf Text) → KeptLines ss rs → Kept (block ps ds ss []) (block ps ds rs [])
kept_block ps ds ss rs k = record {
  proper = λ ks h. (h.0, h.1, h.2, k.proper (known_names ps ds ++ ks) h.3, tt);
  stands = inr (tt, tt, λ v. v);
}

pub kept_brace : (ts us : TreesOf Text) → KeptAll ts us → Kept (brace ts) (brace us)
kept_brace ts us a = record { proper = a.proper; stands = inr (tt, tt, λ v. v) }

pub kept_return : (t u : TreeOf Text) → Kept t u → Kept (return t) (return u)
kept_return t u k = record { proper = λ ks h. (k.proper ks h.0, stands_value t u k.stands h.1); stands = inl (tt, tt) }
