use Rattle.page_layout.proofs.Stays.{word_stays, range_stays, header_stays, size_stays, kind_stays, name_stays}
use Rattle.page_layout.proofs.words.fields_stay.Goals as goal

pub returns : goal.returns
returns c = record {
  word = word_stays;
  range = range_stays;
  header = header_stays;
  size = size_stays;
  kind = kind_stays;
  name = name_stays;
}
