mod NoPrograms
