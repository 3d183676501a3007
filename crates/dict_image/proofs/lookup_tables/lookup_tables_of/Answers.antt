use Rattle.dict_image.proofs.OutlineLemmas.{sections_within}
use Rattle.dict_image.proofs.CategoryLemmas.{categories_in_image, category_prefixes_in}
use Rattle.dict_image.proofs.CostTableLemmas.{cost_table_in, costs_in}
use Rattle.dict_image.proofs.InfoTableLemmas.{readable_in, table_in}
use Rattle.dict_image.proofs.lookup_tables.lookup_tables_of.Goals as goal

pub section_bytes-requires-clause-within : goal.section_bytes-requires-clause-within
section_bytes-requires-clause-within c = sections_within c.args.bytes.now c.requires.formed

pub cost_table_of-requires : goal.cost_table_of-requires
cost_table_of-requires c = costs_in c.args.bytes.now c.args.outline.now.header c.section_bytes.result.now c.requires.header_is c.section_bytes.ensures c.requires.formed

pub section_bytes-requires-2-clause-within : goal.section_bytes-requires-2-clause-within
section_bytes-requires-2-clause-within c = sections_within c.args.bytes.now c.requires.formed

pub info_table_of-requires : goal.info_table_of-requires
info_table_of-requires c = readable_in c.args.bytes.now c.args.outline.now.header c.section_bytes-2.result.now c.requires.header_is c.section_bytes-2.ensures c.requires.formed

pub section_bytes-named-requires-clause-within : goal.section_bytes-named-requires-clause-within
section_bytes-named-requires-clause-within c = sections_within c.args.bytes.now c.requires.formed

pub categories_of-requires : goal.categories_of-requires
categories_of-requires c = category_prefixes_in c.args.bytes.now c.args.outline.now.header c.section_bytes-named.result.now c.requires.header_is c.section_bytes-named.ensures c.requires.formed

pub returns : goal.returns
returns c =
    let bytes = c.args.bytes.now in
    let h = c.args.outline.now.header in
    let is = c.requires.header_is in
    record {
      costs_are = cost_table_in bytes h c.section_bytes.result.now c.in_ok-costs.costs is c.section_bytes.ensures c.in_ok-costs.ensures;
      infos_are = table_in bytes h c.section_bytes-2.result.now c.in_ok-infos.infos is c.section_bytes-2.ensures c.in_ok-infos.ensures;
      categories_are = categories_in_image bytes h c.section_bytes-named.result.now c.in_ok-categories.categories.items is c.section_bytes-named.ensures c.in_ok-categories.ensures;
    }
