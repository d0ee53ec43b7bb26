-- The size of a record that has an owner.
use Rattle.std.specs.Prelude.{◌≡◌, refl}
use Rattle.context.specs.Layout.{record_size}
use Rattle.requests.specs.declared.Owned.{Owned}
use Rattle.requests.specs.declared.Owned.TheVariants as owned
use Rattle.request_table.specs.Records.{owned_record}

pub owned_size : (o : Owned) → record_size (owned_record o) ≡ 64
owned_size (owned.Mpt n) = refl
owned_size (owned.Eq n) = refl
owned_size (owned.Cq n) = refl
