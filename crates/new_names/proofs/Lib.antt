mod AsTexts
mod ShownRuns
