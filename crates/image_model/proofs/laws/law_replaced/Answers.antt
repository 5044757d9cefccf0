use Rattle.image_model.proofs.Kept.{chain-kept, lookup-kept, super_lookup-kept, means-kept}
use Rattle.image_model.proofs.laws.law_replaced.Goals as goal

pub returns-clause-chain : goal.returns-clause-chain
returns-clause-chain g c = λ w h classes o keeps. chain-kept w.tests.same h classes keeps o

pub returns-clause-lookup : goal.returns-clause-lookup
returns-clause-lookup g c = λ w i h f o meta s hierarchy signatures. lookup-kept w i h f hierarchy signatures o meta s

pub returns-clause-super_lookup : goal.returns-clause-super_lookup
returns-clause-super_lookup g c = λ w i h f o meta s hierarchy signatures. super_lookup-kept w i h f hierarchy signatures o meta s

pub returns-clause-means : goal.returns-clause-means
returns-clause-means g c = λ w i h f m path n hierarchy kept. means-kept w i h f hierarchy kept m path n
