use Rattle.owner_bursts.specs.Owners.{sw2hw_made}
use Rattle.owner_bursts.proofs.sw2hw_burst.Goals as goal

pub returns : goal.returns
returns c =
    sw2hw_made _ _ _ _ _ _ _ c.stored.ensures
    c.give_owner.ensures c.store_words.ensures
