use Rattle.device_bytes.specs.Decoding.{hca_of}
use Rattle.device_readers.proofs.read_hca.Goals as goal

pub returns : goal.returns
unfolding hca_of
returns c = cc
