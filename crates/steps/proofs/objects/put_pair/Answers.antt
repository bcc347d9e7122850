-- `steps::put_pair` meets its contract: a pair is written at its place and counted.
use Rattle.steps.proofs.TallyLaws.{pair_counted}
use Rattle.steps.proofs.objects.put_pair.Goals as goal

pub returns : goal.returns
returns c = λ paths payloads.
    pair_counted _ _ paths payloads _ _ _ _ c.store_pair.ensures c.count.ensures c.count-2.ensures
