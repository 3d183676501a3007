use Rattle.image_format.specs.ImageBytes.{header_of, kind_of}
use Rattle.dictionary_tests.proofs.KindLemmas.{system_unless_user}
use Rattle.dictionary_tests.proofs.tests.of_dict_image.lookups.info_with_hint.Goals as goal

pub info_with_hint-requires : goal.info_with_hint-requires
info_with_hint-requires c = system_unless_user c.is_user.result (kind_of (header_of c.args.dict.now)) c.is_user.ensures.kind c.if-is_user.false
