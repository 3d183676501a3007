use Rattle.image_format.specs.ImageBytes.{header_of, kind_of}
use Rattle.dictionary_tests.proofs.KindLemmas.{system_unless_user}
use Rattle.dictionary_tests.proofs.tests.of_dict_image.lookups.info_of.Goals as goal

pub info-requires : goal.info-requires
info-requires c = system_unless_user c.is_user.result (kind_of (header_of c.args.dict.now)) c.is_user.ensures.kind c.if-is_user.false
